-- A quiet instruction changes neither memory nor the picture, and darkens nothing. A drawing of no rows is the only one where that is to be
-- proved: outside of no rows the picture stays, and no more spots go dark than the pattern has bits.
use mathlib.Core.Path.{◌≡◌, refl, sym, ap₂, ◌∙◌}
use mathlib.Core.List.{List, [], ◌++◌}
use Prim.Native.Nat.{ℕ, ◌+◌, ◌-◌, ◌*◌, ◌<◌, min}
use native.Mathlib.Omega.{arith}
use lib.ListN.{drop, take-append-drop}
use lib.Dec.{eqb}
use borrow.Author.Tests.{eqb-true}
use Rattle.rules.specs.declared.Machine.{Machine}
use Rattle.rules.specs.declared.Change.TheVariants.{Nothing}
use Rattle.rules.specs.declared.Op.{Op}
use Rattle.rules.specs.declared.Op.TheVariants.{Plain, AwaitKey, Call, Return, Clear, Draw, Decimal, Store, Fetch}
use Rattle.rules.specs.declared.Op.TheVariants.{Unlisted, MachineCode}
use Rattle.rules.specs.Picture.{drawn, darkened}
use Rattle.rules.specs.Step.{change_of, after, column, row}
use Rattle.rules.specs.Dark.{dark_of}
use Rattle.rules.proofs.Good.{Bytes}
use Rattle.rules.proofs.Drawn.{drawn_outside}
use Rattle.rules.proofs.Balance.{few_darkened}
use Rattle.decode.specs.declared.Way.TheVariants as way
use Rattle.decode.specs.Ways.{way_of}
use Rattle.decode.proofs.Cases.{elsewhere, no_rows}

module _ (at down : ℕ) (P : List ℕ) where
  pub nothing_drawn : Bytes 256 P → down < 32 → drawn [] at down P ≡ P
  nothing_drawn g h =
      let from = 8 * down in
      let new = drawn [] at down P in
      let o = drawn_outside [] at down P g h in
      let end : from + 8 * min 0 (32 - down) ≡ from = omega arith in
      let behind : drop from new ≡ drop from P = rw end at o.behind in
      sym (take-append-drop from new) ∙ ap₂ ◌++◌ o.before behind ∙ take-append-drop from P

  pub nothing_darkened : darkened [] at down P ≡ 0
  nothing_darkened = omega (arith, few_darkened [] at down P)

pub record Leaves (op : Op) (m : Machine) (memory picture : List ℕ) : Type 0 where
  pub stays : (keys random : ℕ) → (after op keys random m memory picture).picture ≡ picture
  pub keeps : change_of op m ≡ Nothing
  pub darkens : dark_of op m memory picture ≡ 0

pub quiet_leaves : (op : Op) (m : Machine) (memory picture : List ℕ) → way_of op ≡ way.Quiet → Bytes 256 picture → Leaves op m memory picture
unfolding after change_of dark_of
quiet_leaves (AwaitKey x) m memory picture q g = record { stays = λ keys random. refl; keeps = refl; darkens = refl }
quiet_leaves (Call a) m memory picture q g = record { stays = λ keys random. refl; keeps = refl; darkens = refl }
quiet_leaves Return m memory picture q g = record { stays = λ keys random. refl; keeps = refl; darkens = refl }
quiet_leaves (Fetch x) m memory picture q g = record { stays = λ keys random. refl; keeps = refl; darkens = refl }
quiet_leaves (Draw x y n) m memory picture q g =
    rw (eqb-true n 0 (no_rows (eqb n 0) q))
    (record {
      stays = λ keys random. nothing_drawn (column m x) (row m y) picture g (omega arith);
      keeps = refl;
      darkens = nothing_darkened (column m x) (row m y) picture;
    })
quiet_leaves (Plain s) m memory picture q g = elsewhere refl q
quiet_leaves Clear m memory picture q g = elsewhere refl q
quiet_leaves (Decimal x) m memory picture q g = elsewhere refl q
quiet_leaves (Store x) m memory picture q g = elsewhere refl q
quiet_leaves Unlisted m memory picture q g = elsewhere refl q
quiet_leaves MachineCode m memory picture q g = elsewhere refl q
