-- The proofs of what Lit claims of the number. It is true after a load; an accepted call leaves it as far from the picture's count as it
-- was, so a true one stays true; and a true one is never refused.
use mathlib.Core.Path.{◌≡◌, refl}
use mathlib.Core.List.{List}
use Prim.Native.Nat.{ℕ}
use native.Mathlib.Omega.{arith}
use Rattle.rules.specs.declared.Action.{Action}
use Rattle.rules.specs.declared.Action.TheVariants.{Step, Tick}
use Rattle.rules.specs.Picture.{lit_first, lit_spots}
use Rattle.rules.specs.Record.{change_at, picture_at, action_at}
use Rattle.rules.specs.Step.{lit_refusal}
use Rattle.rules.specs.World.{World, Answer, board_of}
use Rattle.rules.specs.Load.{load, load_refusal}
use Rattle.rules.specs.Call.{acted, stepped, step_tests, step_late, step_refusal, own_refusal, ticked}
use Rattle.rules.specs.Call.{back_refusal, last_record, undone, forward_refusal, redone, next_record}
use Rattle.rules.specs.Lit.{TrueLit, AsFar, own_tests, LoadLit, LitKept, FarKept, NeverLate, TrueNeverLate}
use Rattle.rules.proofs.Choices.{by_test, both_zero, no_later}
use Rattle.rules.proofs.Parts.{zeroes}
use Rattle.rules.proofs.Counted.{as_far, true_passes}
use Rattle.rules.proofs.Follow.{step_passes}
use Rattle.rules.proofs.Ready.{step_accepted, back_passed, forward_own}
use Rattle.rules.proofs.Each.{Lasts, each_lasts, each_from}

-- ---- after a load

pub lit_none : lit_spots (zeroes 256) ≡ 0
unfolding lit_first lit_spots
lit_none = refl

pub load_lit : LoadLit
unfolding load
load_lit edition end program memory picture history =
    by_test (λ (a : Answer). a.refusal ≡ 0 → TrueLit a.world) (load_refusal end program memory picture history) 0 (λ z e. rw lit_none)
    (λ ne e. absurd (ne e))

-- ---- as far as it was

acted_far : (a : Action) (w : World) → own_refusal a (board_of w) ≡ 0 → AsFar w (acted a w)
acted_far (Step keys random) w e =
    let b = board_of w in
    as_far w.machine.lit w.picture _ (step_passes b keys random (both_zero (step_tests b) (step_late b) e).1)
acted_far Tick w e = refl

-- what lasts where the number is as far as it was
by_far : (P : World → Type 0) → ((w v : World) → AsFar w v → P w → P v) → Lasts P
unfolding stepped ticked undone redone
by_far P on =
    record {
      step = λ keys random w e. on w _ (acted_far (Step keys random) w (step_accepted w e).rest);
      tick = λ w. on w _ (acted_far Tick w refl);
      back = λ w e. on w _ (as_far w.machine.lit w.picture _ (back_passed w e).2);
      forward = λ w e. on w _ (acted_far (action_at (next_record w)) w (forward_own w e));
    }

far_further : (u w v : World) → AsFar w v → AsFar u w → AsFar u v
far_further u w v a b = omega arith

pub far_kept : FarKept
far_kept = each_from AsFar (λ u. by_far (AsFar u) (far_further u)) (λ w. refl)

far_true : (w v : World) → AsFar w v → TrueLit w → TrueLit v
far_true w v a t = omega arith

pub lit_lasts : Lasts TrueLit
lit_lasts = by_far TrueLit far_true

pub lit_kept : LitKept
lit_kept = each_lasts TrueLit lit_lasts

-- ---- never refused

module _ (w : World) (t : TrueLit w) where
  passes : (q : List ℕ) → lit_refusal w.machine.lit w.picture q ≡ 0
  passes q = true_passes w.machine.lit w.picture q t

  pub own_lit : (a : Action) → own_refusal a (board_of w) ≡ own_tests a (board_of w)
  own_lit (Step keys random) = no_later (step_tests (board_of w)) (step_late (board_of w)) (passes _)
  own_lit Tick = refl

  pub never_late : NeverLate w
  unfolding step_refusal back_refusal forward_refusal
  never_late =
      record {
        step = rw (own_lit (Step 0 0));
        back = rw (passes (picture_at (change_at (last_record w)) (last_record w) w.picture));
        forward = rw (own_lit (action_at (next_record w)));
      }

pub true_never_late : TrueNeverLate
true_never_late = never_late
