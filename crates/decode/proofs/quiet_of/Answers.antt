-- An arm by the digit that it matches; of the digits that are left for the last arm only 15 has quiet instructions.
use mathlib.Core.Path.{◌≡◌, refl}
use Prim.Native.Nat.{ℕ, ◌+◌, ◌*◌, ◌/◌, ◌%◌, ◌<◌}
use native.Mathlib.Omega.{arith}
use Rattle.rules.specs.declared.Edition.{Edition}
use Rattle.rules.specs.declared.Op.{Op}
use Rattle.rules.specs.declared.Op.TheVariants.{Plain, Return, Unlisted}
use Rattle.rules.specs.declared.Simple.{Simple}
use Rattle.rules.specs.Instruction.{other_op, sum_op, op_of, decode}
use Rattle.decode.specs.declared.Way.TheVariants as way
use Rattle.decode.proofs.Cases.{digit, On, elsewhere, on_zero, on_skip, on_sum, on_key}
use Rattle.decode.proofs.quiet_of.Goals as goal

module _ (edition : Edition) (hi x y n kk a : ℕ) (op : Op) (found : On way.Quiet (λ (o : Op). o ≡ op) (other_op x kk)) where
  abbrev Is : Op → Type 0
  Is o = o ≡ op

  none : (s : Simple) → On way.Quiet Is (Plain s)
  none s e = elsewhere refl e

  unlisted : On way.Quiet Is Unlisted
  unlisted e = elsewhere refl e

  abbrev Left : ℕ → Type 0
  Left d = (d ≡ 0x0 → ⊥) → (d ≡ 0x2 → ⊥) → (d ≡ 0xD → ⊥) → On way.Quiet Is (op_of hi d x y n kk a (sum_op edition x y n))

  left : (d : ℕ) → d < 16 → Left d
  left =
      digit Left
      (λ p q r. absurd (p refl)) (λ p q r. none _) (λ p q r. absurd (q refl)) (λ p q r. none _) (λ p q r. none _)
      (λ p q r. on_skip way.Quiet Is n _ (none _) unlisted) (λ p q r. none _) (λ p q r. none _)
      (λ p q r. on_sum way.Quiet Is edition x y n none unlisted)
      (λ p q r. on_skip way.Quiet Is n _ (none _) unlisted) (λ p q r. none _) (λ p q r. none _) (λ p q r. none _)
      (λ p q r. absurd (r refl)) (λ p q r. on_key way.Quiet Is x kk none unlisted) (λ p q r. found)

pub returns-in-0 : goal.returns-in-0
unfolding decode
returns-in-0 c edition =
    let a = c.args in
    rw c.in-0.is (on_zero way.Quiet (λ (op : Op). op ≡ Return) a.hi a.lo (λ e. elsewhere refl e) (λ e. refl) (λ e. elsewhere refl e))

pub returns-in-2 : goal.returns-in-2
unfolding decode
returns-in-2 c = rw c.in-2.is (λ edition e. refl)

pub returns-in-13 : goal.returns-in-13
unfolding decode
returns-in-13 c = rw c.in-13.is (λ edition e. refl)

pub returns-in_default : goal.returns-in_default
unfolding decode
returns-in_default c edition =
    let a = c.args in
    let r = c.in_default.in_default-own.rest in
    left edition a.hi (a.hi % 16) (a.lo / 16) (a.lo % 16) a.lo (a.hi % 16 * 256 + a.lo) _ c.key_or_fetch_of.ensures
    (a.hi / 16) (omega (arith, c.ranges.hi)) r.0.0.1 r.0.1 r.1
