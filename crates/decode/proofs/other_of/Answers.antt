-- An arm by the digit that it matches; of the digits that are left for the last arm none has an instruction that takes this way, but what is not listed.
use mathlib.Core.Path.{◌≡◌, refl}
use Prim.Native.Nat.{ℕ, ◌+◌, ◌*◌, ◌/◌, ◌%◌, ◌<◌}
use native.Mathlib.Omega.{arith}
use lib.Dec.{eqb}
use Rattle.rules.specs.declared.Edition.{Edition}
use Rattle.rules.specs.declared.Op.{Op}
use Rattle.rules.specs.declared.Op.TheVariants.{Plain, Draw, Unlisted}
use Rattle.rules.specs.declared.Simple.{Simple}
use Rattle.rules.specs.Instruction.{sum_op, op_of, decode}
use Rattle.rules.proofs.Choices.{choice}
use Rattle.decode.specs.declared.Way.{Way}
use Rattle.decode.specs.declared.Way.TheVariants as way
use Rattle.decode.proofs.Cases.{digit, On, elsewhere, on_skip, on_sum, on_key}
use Rattle.decode.proofs.other_of.Goals as goal

module _ (edition : Edition) (hi x y n kk a : ℕ) where
  abbrev None : Op → Type 0
  None op = op ≡ Unlisted

  none : (s : Simple) → On way.Other None (Plain s)
  none s e = elsewhere refl e

  unlisted : On way.Other None Unlisted
  unlisted e = refl

  drawing : On way.Other None (Draw x y n)
  drawing = choice (λ (v : Way). v ≡ way.Other → None (Draw x y n)) (eqb n 0) (λ e. elsewhere refl e) (λ e. elsewhere refl e)

  abbrev Left : ℕ → Type 0
  Left d = (d ≡ 0x0 → ⊥) → (d ≡ 0xF → ⊥) → On way.Other None (op_of hi d x y n kk a (sum_op edition x y n))

  left : (d : ℕ) → d < 16 → Left d
  left =
      digit Left
      (λ p q. absurd (p refl)) (λ p q. none _) (λ p q e. elsewhere refl e) (λ p q. none _) (λ p q. none _)
      (λ p q. on_skip way.Other None n _ (none _) unlisted) (λ p q. none _) (λ p q. none _)
      (λ p q. on_sum way.Other None edition x y n none unlisted)
      (λ p q. on_skip way.Other None n _ (none _) unlisted) (λ p q. none _) (λ p q. none _) (λ p q. none _)
      (λ p q. drawing) (λ p q. on_key way.Other None x kk none unlisted) (λ p q. absurd (q refl))

pub returns-in-0 : goal.returns-in-0
unfolding decode
returns-in-0 c = rw c.in-0.is (λ edition. c.clear_of.ensures)

pub returns-in-15 : goal.returns-in-15
unfolding decode
returns-in-15 c = rw c.in-15.is (λ edition. c.store_of.ensures)

pub returns-in_default : goal.returns-in_default
unfolding decode
returns-in_default c edition =
    let a = c.args in
    let r = c.in_default.in_default-own.rest in
    left edition a.hi (a.hi % 16) (a.lo / 16) (a.lo % 16) a.lo (a.hi % 16 * 256 + a.lo) (a.hi / 16) (omega (arith, c.ranges.hi)) r.0.1 r.1
