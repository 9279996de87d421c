-- The invariant: what is cleared from place p on, of the history as it is, gives what is cleared of the history as it came.
use mathlib.Core.Path.{◌≡◌, refl, ap, ◌∙◌}
use mathlib.Core.List.{List}
use Prim.Native.Nat.{ℕ, ◌-◌}
use native.Mathlib.Nat.{sub-zero}
use native.Mathlib.Omega.{arith}
use borrow.Author.Rules.{rules}
use lib.ListN.{length}
use Rattle.salvage_places.specs.Places.{others, others_from}
use Rattle.salvage_places.specs.Cleared.{cleared}
use Rattle.salvage_places.proofs.Clearing.{cleared_more, cleared_all, turn_size}
use Rattle.salvage_places.proofs.clear_others.Goals as goal

start : (r r₀ n k : ℕ) (h : List ℕ) → r ≡ r₀ → cleared (others_from r n k (r - 0) 0) h ≡ cleared (others r₀ n k) h
start r r₀ n k h e = rw (sub-zero, e)

pub loop-p-init : goal.loop-p-init
loop-p-init c = (c.places-places.ensures, omega (arith, c.places-places.ensures), search rules, refl, start _ _ _ _ _ c.places-places.ensures)

pub loop-p-preserved : goal.loop-p-preserved
loop-p-preserved c =
    let cleared = c in
    let loop = cleared.loop-p in
    let inv = loop.invariant in
    let e = cleared.clear_other.ensures in (
      inv.0,
      inv.1,
      inv.2,
      ap length e ∙ turn_size _ _ _ loop.p loop.history (omega arith) (omega arith) ∙ inv.3,
      cleared_more _ _ _ loop.p loop.history _ _ (omega arith) e inv.4,
    )

pub shape_of-history : goal.shape_of-history
shape_of-history c = c.loop-p.invariant.3

pub returns : goal.returns
returns c = cleared_all _ _ _ c.loop-p.p _ _ (omega arith) c.loop-p.invariant.4
