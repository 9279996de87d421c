-- A world that passes the tests 9 and 10: the tests give it, and every accepted call keeps it, a step back onto any bytes too.
use mathlib.Core.Path.{◌≡◌, refl, sym, ap, ◌∙◌}
use mathlib.Core.Bool.{true, not, ◌&&◌, and-eq-true_iff}
use Prim.Native.Nat.{ℕ, zero, suc, ◌+◌, ◌-◌, ◌*◌, ◌≤◌, ◌<◌}
use native.Mathlib.Omega.{arith}
use lib.ListN.{length}
use lib.Dec.{eqb, ltb, leb}
use borrow.Author.Tests.{ltb-true, leb-true, eqb-true, eqb-false, not-true, le-leb, lt-ltb, eq-eqb}
use Rattle.rules.specs.declared.Action.{Action}
use Rattle.rules.specs.declared.Action.TheVariants.{Step, Tick}
use Rattle.rules.specs.Number.{unless}
use Rattle.rules.specs.State.{Chosen, end_sound, sound}
use Rattle.rules.specs.Record.{damaged, kind_sound, action_at}
use Rattle.rules.specs.Step.{change_of}
use Rattle.rules.specs.World.{World, Answer, with_ahead, board_of, places, history_fits, buffers_fit, trail_fits, soundly}
use Rattle.rules.specs.Call.{op_at, step_board, board_by, change_by, step_own, own_refusal, next_place, record_by, written, acted}
use Rattle.rules.specs.Call.{step_refusal, stepped, step, ticked, place_before, last_record, back_late, back_refusal, undone, back}
use Rattle.rules.specs.Call.{next_record, forward_refusal, redone, forward}
use Rattle.rules.specs.Run.{ticked_by}
use Rattle.rules.specs.Typed.{Below, TypedBoard}
use Rattle.rules.proofs.Choices.{by_test, and_both, passed}
use Rattle.rules.proofs.Good.{Bytes, GoodBoard}
use Rattle.rules.proofs.Parts.{over_length, part_length, below_take, below_drop}
use Rattle.rules.proofs.Sound.{good_sound, sound_parts, sound_good}
use Rattle.rules.proofs.Undo.{written_length, Usable, usable}
use Rattle.rules.proofs.Restored.{machine_good, memory_good, picture_good}
use Rattle.rules.proofs.Counted.{counted_good}
use Rattle.rules.proofs.Follow.{Follows, action_follows}
use Rattle.rules.proofs.Still.{action_chosen}

pub record Ready (w : World) : Type 0 where
  pub good : GoodBoard (board_of w)
  pub end : end_sound w.machine.end ≡ true
  pub least : 292 ≤ length w.history
  pub most : length w.history ≤ 65536
  pub next : w.trail.next < places w.history
  pub limit : w.trail.kept + w.trail.ahead ≤ places w.history

-- ---- the tests

-- what the tests 9 and 10 say
pub record Passed (w : World) : Type 0 where
  pub memory : length w.memory ≡ 4096
  pub picture : length w.picture ≡ 256
  pub least : 292 ≤ length w.history
  pub most : length w.history ≤ 65536

pub fits_passed : (w : World) → buffers_fit w ≡ true → Passed w
fits_passed w e =
    let sizes = eqb (length w.memory) 4096 && eqb (length w.picture) 256 in
    let all = (and-eq-true_iff sizes (history_fits w.history)).0 e in
    let both = (and-eq-true_iff (eqb (length w.memory) 4096) (eqb (length w.picture) 256)).0 all.0 in
    let room = (and-eq-true_iff (leb 292 (length w.history)) (leb (length w.history) 65536)).0 all.1 in
    record {
      memory = eqb-true _ _ both.0;
      picture = eqb-true _ _ both.1;
      least = leb-true _ _ room.0;
      most = leb-true _ _ room.1;
    }

pub start_ready : (w : World) → TypedBoard (board_of w) → buffers_fit w ≡ true → sound w.machine ≡ true
    → w.trail.next < places w.history → w.trail.kept + w.trail.ahead ≤ places w.history → Ready w
start_ready w t fits s next limit =
    let p = fits_passed w fits in
    record {
      good = record {
        machine = sound_good w.machine t.machine s;
        memory = record { size = p.memory; below = t.memory };
        picture = record { size = p.picture; below = t.picture };
      };
      end = (sound_parts w.machine s).end;
      least = p.least;
      most = p.most;
      next = next;
      limit = limit;
    }

pub soundly_passed : (w : World) → soundly w ≡ true
    → (sound w.machine ≡ true) × (w.trail.next < places w.history) × (w.trail.kept + w.trail.ahead ≤ places w.history)
soundly_passed w s =
    let all = (and-eq-true_iff (sound w.machine) (trail_fits w.trail w.history)).0 s in
    let most = leb (w.trail.kept + w.trail.ahead) (places w.history) in
    let both = (and-eq-true_iff (ltb w.trail.next (places w.history)) most).0 all.1 in
    (all.0, ltb-true _ _ both.0, leb-true _ _ both.1)

pub tests_ready : (w : World) → TypedBoard (board_of w) → buffers_fit w ≡ true → soundly w ≡ true → Ready w
tests_ready w t fits s = let (state, next, limit) = soundly_passed w s in start_ready w t fits state next limit

-- an accepted call passed them, and what came later
pub record Accepted (w : World) (later : ℕ) : Type 0 where
  pub fits : buffers_fit w ≡ true
  pub sound : soundly w ≡ true
  pub rest : later ≡ 0

pub accepted : (w : World) (later : ℕ) → unless (buffers_fit w) 9 (unless (soundly w) 10 later) ≡ 0 → Accepted w later
accepted w later e =
    let first = passed (buffers_fit w) 8 _ e in
    let second = passed (soundly w) 9 later first.1 in
    record { fits = first.0; sound = second.0; rest = second.1 }

pub accepted_ready : (w : World) {later : ℕ} → TypedBoard (board_of w) → Accepted w later → Ready w
accepted_ready w typed a = tests_ready w typed a.fits a.sound

module _ (w : World) where
  pub step_accepted : step_refusal w ≡ 0 → Accepted w (step_own (board_of w))
  unfolding step_refusal
  step_accepted = accepted w _

  -- what a step back and a step forward test after them
  abbrev back_tests : ℕ
  back_tests =
      unless (not (eqb w.trail.kept 0)) 7 (unless (not (damaged w.machine.end (last_record w) w.machine.depth)) 11 (back_late w))

  abbrev forward_tests : ℕ
  forward_tests =
      unless (not (eqb w.trail.ahead 0)) 12 (unless (kind_sound (next_record w)) 11 (own_refusal (action_at (next_record w)) (board_of w)))

  pub back_accepted : back_refusal w ≡ 0 → Accepted w back_tests
  unfolding back_refusal
  back_accepted = accepted w _

  pub forward_accepted : forward_refusal w ≡ 0 → Accepted w forward_tests
  unfolding forward_refusal
  forward_accepted = accepted w _

  pub back_passed : back_refusal w ≡ 0
      → (not (eqb w.trail.kept 0) ≡ true) × (not (damaged w.machine.end (last_record w) w.machine.depth) ≡ true) × (back_late w ≡ 0)
  back_passed e =
      let third = passed (not (eqb w.trail.kept 0)) 6 _ (back_accepted e).rest in
      let fourth = passed (not (damaged w.machine.end (last_record w) w.machine.depth)) 10 _ third.1 in
      (third.0, fourth.0, fourth.1)

  -- an accepted forward makes an action that is accepted
  pub forward_own : forward_refusal w ≡ 0 → own_refusal (action_at (next_record w)) (board_of w) ≡ 0
  forward_own e =
      let third = passed (not (eqb w.trail.ahead 0)) 11 _ (forward_accepted e).rest in
      (passed (kind_sound (next_record w)) 10 _ third.1).1

pub ready_fits : (w : World) → Ready w → buffers_fit w ≡ true
ready_fits w h =
    and_both (and_both (eq-eqb _ _ h.good.memory.size) (eq-eqb _ _ h.good.picture.size))
    (and_both (le-leb _ _ h.least) (le-leb _ _ h.most))

pub ready_soundly : (w : World) → Ready w → soundly w ≡ true
ready_soundly w h =
    and_both (good_sound w.machine h.good.machine h.end)
    (and_both (lt-ltb w.trail.next (places w.history) h.next) (le-leb (w.trail.kept + w.trail.ahead) (places w.history) h.limit))

pub ready_typed : (w : World) → Ready w → TypedBoard (board_of w)
ready_typed w h =
    let m = h.good.machine in
    record {
      machine = record {
        vs = m.v.size;
        v = m.v.below;
        i = m.i;
        pc = m.pc;
        entries = m.calls.size;
        stack = m.calls.below;
        delay = m.timers.delay;
        tone = m.timers.tone;
        lit = omega (arith, m.lit);
        end = omega (arith, m.end.most);
      };
      memory = h.good.memory.below;
      picture = h.good.picture.below;
    }

-- ---- an accepted action

pub next_below : (r n : ℕ) → n < r → next_place r n < r
next_below r n h = by_test (λ (q : ℕ). q < r) (n + 1) r (λ e. omega arith) (λ e. omega arith)

module _ (w : World) (h : Ready w) (a : Action) (accepted : own_refusal a (board_of w) ≡ 0) where
  pub acted_follows : Follows (change_by a (board_of w)) (board_of w) (board_by a (board_of w))
  acted_follows = action_follows (board_of w) h.good a accepted

  pub record_sized : length (record_by a (board_of w)) ≡ 292
  record_sized = written_length _ a (board_of w) h.good acted_follows.undoable.fits

  pub as_long : length (written a w) ≡ length w.history
  as_long = over_length w.history _ (292 * w.trail.next) 292 (omega (arith, h.next)) record_sized

  -- with nothing ahead, or one less than before
  pub acted_ready : (n : ℕ) → n ≤ w.trail.ahead - 1 → Ready (with_ahead n (acted a w))
  acted_ready n few =
      record {
        good = acted_follows.good;
        end = ap (λ (c : Chosen). end_sound c.end) (action_chosen a (board_of w)) ∙ h.end;
        least = rw as_long h.least;
        most = rw as_long h.most;
        next = rw as_long (next_below (places w.history) w.trail.next h.next);
        limit = rw as_long
            (by_test (λ (q : ℕ). q + n ≤ places w.history) w.trail.kept (places w.history) (λ e. omega (arith, h.limit))
            (λ e. omega (arith, h.limit)));
      }

module _ (w : World) (h : Ready w) where
  -- what is left of a step's tests
  pub step_own_law : step_refusal w ≡ step_own (board_of w)
  unfolding step_refusal
  step_own_law = rw (ready_fits w h, ready_soundly w h)

  pub stepped_follows : (keys random : ℕ) → step_refusal w ≡ 0
      → Follows (change_of (op_at (board_of w)) w.machine) (board_of w) (step_board keys random (board_of w))
  stepped_follows keys random e = acted_follows w h (Step keys random) (sym step_own_law ∙ e)

  pub stepped_ready : (keys random : ℕ) → step_refusal w ≡ 0 → Ready (stepped keys random w)
  unfolding stepped
  stepped_ready keys random e = acted_ready w h (Step keys random) (sym step_own_law ∙ e) 0 (omega arith)

  pub step_ready : (keys random : ℕ) → Ready (step keys random w).world
  unfolding step
  step_ready keys random = by_test (λ (a : Answer). Ready a.world) (step_refusal w) 0 (stepped_ready keys random) (λ e. h)

  pub ticked_ready : Ready (ticked w)
  unfolding ticked
  ticked_ready = acted_ready w h Tick refl 0 (omega arith)

pub ticks_ready : (n : ℕ) (w : World) → Ready w → Ready (ticked_by n w)
ticks_ready zero w h = h
ticks_ready (suc n) w h = ticks_ready n (ticked w) (ticked_ready w h)

-- ---- a step back and a step forward, whatever stands in the history

pub before_below : (r n : ℕ) → n < r → place_before r n < r
before_below r n h = by_test (λ (q : ℕ). q < r) n 0 (λ e. omega arith) (λ e. omega arith)

-- the record that an accepted back reads
pub last_sized : (w : World) → w.trail.next < places w.history → length (last_record w) ≡ 292
last_sized w next =
    let before = before_below (places w.history) w.trail.next next in
    part_length w.history (292 * place_before (places w.history) w.trail.next) 292 (omega arith)

pub last_usable : (w : World) → back_refusal w ≡ 0 → Usable w.machine.end (last_record w)
last_usable w e = usable w.machine.end (last_record w) w.machine.depth (not-true _ (back_passed w e).1)

module _ (w : World) (h : Ready w) where
  pub last_place : Below 256 w.history → Bytes 292 (last_record w)
  last_place bytes =
      record {
        size = last_sized w h.next;
        below = below_take (below_drop bytes (292 * place_before (places w.history) w.trail.next)) 292;
      }

  pub undone_ready : Below 256 w.history → back_refusal w ≡ 0 → Ready (undone (last_record w) w)
  unfolding undone
  undone_ready bytes e =
      let (kept, intact, late) = back_passed w e in
      let place = last_place bytes in
      let fine = last_usable w e in
      record {
        good = counted_good (board_of w) _
            (record {
              machine = machine_good (last_record w) place fine w.machine h.good.machine;
              memory = memory_good (last_record w) place fine w.memory h.good.machine.end.most h.good.memory;
              picture = picture_good (last_record w) place fine w.picture h.good.picture;
            })
            late;
        end = h.end;
        least = h.least;
        most = h.most;
        next = before_below (places w.history) w.trail.next h.next;
        limit = omega (arith, h.limit, eqb-false w.trail.kept 0 (not-true _ kept));
      }

  pub back_ready : Below 256 w.history → Ready (back w).world
  unfolding back
  back_ready bytes = by_test (λ (a : Answer). Ready a.world) (back_refusal w) 0 (undone_ready bytes) (λ e. h)

  pub redone_ready : forward_refusal w ≡ 0 → Ready (redone (action_at (next_record w)) w)
  unfolding redone
  redone_ready e = acted_ready w h (action_at (next_record w)) (forward_own w e) (w.trail.ahead - 1) (omega arith)

  pub forward_ready : Ready (forward w).world
  unfolding forward
  forward_ready = by_test (λ (a : Answer). Ready a.world) (forward_refusal w) 0 redone_ready (λ e. h)
