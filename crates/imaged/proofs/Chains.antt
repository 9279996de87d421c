-- Calls on an image follow one another: what an accepted call hands back is a state that its image holds whole.
use mathlib.Core.Path.{◌≡◌, refl, sym, ap, ◌∙◌}
use mathlib.Core.Bool.{Bool, true, false, and-eq-true_iff}
use mathlib.Core.List.{List}
use Prim.Native.Nat.{ℕ, ◌+◌, ◌≤◌, ◌<◌}
use native.Mathlib.Omega.{arith}
use lib.ListN.{length}
use lib.Dec.{eqb, ltb, leb}
use borrow.Author.Tests.{ltb-true, leb-true, eqb-true, eqb-false, ne_eqb}
use Rattle.rules.specs.declared.Edition.{Edition}
use Rattle.rules.specs.declared.Edition.TheVariants.{First}
use Rattle.rules.specs.declared.Machine.{Machine}
use Rattle.rules.specs.declared.Trail.{Trail}
use Rattle.std.specs.Prelude.{Result, ⊤}
use Rattle.rules.specs.declared.Refusal.{Refusal}
use Rattle.rules.specs.Number.{unless}
use Rattle.rules.specs.State.{sound, fresh}
use Rattle.rules.specs.Record.{byte_at, word_at, action_at}
use Rattle.rules.specs.World.{World, Answer, world, board_of, places, history_fits, buffers_fit, trail_fits, soundly, answered}
use Rattle.rules.specs.Load.{end_of, load, load_refusal, loaded, fresh_trail, fresh_world}
use Rattle.rules.specs.Call.{step, step_refusal, stepped, tick, tick_refusal, ticked, back, back_refusal, last_record, undone}
use Rattle.rules.specs.Call.{forward, forward_refusal, next_record, redone}
use Rattle.rules.specs.Run.{run, run_refusal, play, play_refusal}
use Rattle.rules.specs.Typed.{Below, none, more, TypedMachine, TypedBoard}
use Rattle.rules.specs.Promise.{Gives}
use Rattle.rules.proofs.Choices.{choice, by_test, and_both, passed}
use Rattle.rules.proofs.Parts.{part_length, below_get, below_take, below_drop}
use Rattle.rules.proofs.Sound.{good_sound}
use Rattle.rules.proofs.Load.{end_in_use, fresh_typed}
use Rattle.rules.proofs.Ready.{Ready, tests_ready, ready_typed, next_below, stepped_ready, undone_ready, redone_ready}
use Rattle.rules.proofs.Stays.{play_lasts, run_lasts}
use Rattle.image.specs.Image.{image_of, edition_of, machine_of, Storable}
use Rattle.image.proofs.ReadsBack.{comes_back}
use Rattle.imaged.specs.Imaged.{world_of, shown, load_by, whole, played_on, standing, Leaves, Lent, Chains}
use Rattle.imaged.proofs.Laws.{run_left, play_left}

-- ---- states that an image holds whole

ready_storable : (w : World) → Ready w → Storable w.machine w.trail
ready_storable w h =
    record {
      typed = (ready_typed w h).machine;
      sound = good_sound w.machine h.good.machine h.end;
      next = omega (arith, h.next, h.most);
      kept = omega (arith, h.limit, h.most);
      ahead = omega (arith, h.limit, h.most);
    }

-- what is written stands for what it is written of
stands : (w : World) → Storable w.machine w.trail
    → world_of (image_of w.machine w.trail) w.memory w.picture w.history ≡ w
stands w s = let (m, t) = comes_back w.machine w.trail s in λ i. world (m i) (t i) w.memory w.picture w.history

module _ (b : List ℕ) (size : length b ≡ 64) (small : Below 256 b) where
  byte : (k : ℕ) → byte_at b k < 256
  byte k = below_get (omega arith) small k

  two : (k : ℕ) → word_at b k < 65536
  two k = omega (arith, byte k, byte (k + 1))

  pub image_typed : TypedMachine (machine_of b)
  unfolding machine_of
  image_typed =
      record {
        vs = part_length b 0 16 (omega arith);
        v = below_take (below_drop small 0) 16;
        i = two 16;
        pc = two 18;
        entries = refl;
        stack = more (two 24) (more (two 26) (more (two 28) (more (two 30) (more (two 32) (more (two 34)
            (more (two 36) (more (two 38) (more (two 40) (more (two 42) (more (two 44) (more (two 46) none)))))))))));
        delay = byte 21;
        tone = byte 22;
        lit = two 56;
        end = two 58;
      }

-- a tick tests no memory and no picture
ticked_storable : (w : World) → TypedMachine w.machine → tick_refusal w ≡ 0 → Storable (ticked w).machine (ticked w).trail
unfolding tick_refusal ticked
ticked_storable w t e =
    let first = passed (history_fits w.history) 8 _ e in
    let room = (and-eq-true_iff (leb 292 (length w.history)) (leb (length w.history) 65536)).0 first.0 in
    let both = (and-eq-true_iff (sound w.machine) (trail_fits w.trail w.history)).0 (passed (soundly w) 9 0 first.1).0 in
    let r = places w.history in
    let range = (and-eq-true_iff (ltb w.trail.next r) (leb (w.trail.kept + w.trail.ahead) r)).0 both.1 in
    let most : length w.history ≤ 65536 = leb-true _ _ room.1 in
    record {
      typed = record {
        vs = t.vs;
        v = t.v;
        i = t.i;
        pc = t.pc;
        entries = t.entries;
        stack = t.stack;
        delay = omega (arith, t.delay);
        tone = omega (arith, t.tone);
        lit = t.lit;
        end = t.end;
      };
      sound = both.0;
      next = omega (arith, next_below r w.trail.next (ltb-true _ _ range.0));
      kept = by_test (λ (k : ℕ). k < 65536) w.trail.kept r (λ z. omega arith) (λ z. omega (arith, leb-true (w.trail.kept + w.trail.ahead) r range.1));
      ahead = omega arith;
    }

-- ---- the calls

module _ (img mem pic his : List ℕ) (lent : Lent img mem pic his) where
  abbrev here : World
  here = world_of img mem pic his

  typed : TypedBoard (board_of here)
  typed = record { machine = image_typed img lent.size lent.image; memory = lent.memory; picture = lent.picture }

  -- where the first two tests pass
  entered : (later : ℕ) → unless (buffers_fit here) 9 (unless (soundly here) 10 later) ≡ 0 → Ready here
  entered later e =
      let first = passed (buffers_fit here) 8 _ e in
      tests_ready here typed first.0 (passed (soundly here) 9 _ first.1).0

  answered_stands : (n : ℕ) (new : World) → (n ≡ 0 → Storable new.machine new.trail)
      → standing (whole img (answered n new here)) ≡ (answered n new here).world
  answered_stands n new s =
      by_test (λ (a : Answer). standing (whole img a) ≡ a.world) n 0 (λ e. stands new (s e)) (λ ne. rw (ne_eqb n 0 ne))

  list_stands : (own : ℕ) (a : Answer) → (own ≡ 0 → Ready a.world) → ((own ≡ 0 → ⊥) → a.world ≡ here)
      → standing (shown (eqb own 0) img a) ≡ a.world
  list_stands own a inner outer = go (eqb own 0) refl
    where
      go : (t : Bool) → eqb own 0 ≡ t → standing (shown t img a) ≡ a.world
      go true e = stands a.world (ready_storable a.world (inner (eqb-true own 0 e)))
      go false e =
          let same = outer (eqb-false own 0 e) in
          ap (λ (w : World). world_of img w.memory w.picture w.history) same ∙ sym same

  fresh_storable : (edition : Edition) (end : ℕ) → Storable (fresh edition (end_of end)) fresh_trail
  fresh_storable edition end =
      record { typed = fresh_typed edition end; sound = and_both refl (end_in_use end); next = omega arith; kept = omega arith; ahead = omega arith }

  known_stands : (edition : Edition) (end : ℕ) (program : List ℕ) → let a = load edition end program mem pic his in standing (shown true img a) ≡ a.world
  unfolding load
  known_stands edition end program =
      by_test (λ (a : Answer). standing (shown true img a) ≡ a.world) (load_refusal end program mem pic his) 0
      (λ e. stands (loaded edition end program his) (fresh_storable edition end)) (λ ne. stands (fresh_world edition end mem pic his) (fresh_storable edition end))

  load_stands : (edition end : ℕ) (program : List ℕ) → let a = load_by edition end program mem pic his in standing (shown true img a) ≡ a.world
  load_stands edition end program =
      choice (λ (a : Answer). standing (shown true img a) ≡ a.world) (leb edition 1) (known_stands (edition_of edition) end program)
      (stands (fresh_world First end mem pic his) (fresh_storable First end))

  step_stands : (keys random : ℕ) → standing (whole img (step keys random here)) ≡ (step keys random here).world
  unfolding step step_refusal
  step_stands keys random =
      answered_stands (step_refusal here) (stepped keys random here) (λ e. ready_storable _ (stepped_ready here (entered _ e) keys random e))

  tick_stands : standing (whole img (tick here)) ≡ (tick here).world
  unfolding tick
  tick_stands = answered_stands (tick_refusal here) (ticked here) (ticked_storable here typed.machine)

  back_stands : standing (whole img (back here)) ≡ (back here).world
  unfolding back back_refusal
  back_stands =
      answered_stands (back_refusal here) (undone (last_record here) here)
      (λ e. ready_storable _ (undone_ready here (entered _ e) lent.history e))

  forward_stands : standing (whole img (forward here)) ≡ (forward here).world
  unfolding forward forward_refusal
  forward_stands =
      answered_stands (forward_refusal here) (redone (action_at (next_record here)) here) (λ e. ready_storable _ (redone_ready here (entered _ e) e))

  pub chains : Chains img mem pic his
  chains =
      record {
        load = load_stands;
        step = step_stands;
        tick = tick_stands;
        back = back_stands;
        forward = forward_stands;
        run = λ ticks keys randoms.
            list_stands (run_refusal ticks keys randoms here) (run ticks keys randoms here).answer
            (λ e. (run_lasts ticks keys randoms here typed lent.history e).ready) (run_left ticks keys randoms here);
        play = λ moves keys randoms.
            list_stands (play_refusal moves keys randoms here) (play moves keys randoms here)
            (λ e. (play_lasts moves keys randoms here typed lent.history e).ready) (play_left moves keys randoms here);
      }

-- what stands in the bytes after a play is what the library's play gave, state and numbers by value
pub play_stands : (moves keys randoms img mem pic his : List ℕ) → Lent img mem pic his
    → (n : ℕ) (o : Result ⊤ Refusal) (m : Machine) (t : Trail) (img' mem' pic' his' : List ℕ)
    → Gives (play moves keys randoms (world_of img mem pic his)) o m t mem' pic' his'
    → Leaves (played_on moves keys randoms img mem pic his) n img' mem' pic' his'
    → world_of img' mem' pic' his' ≡ world m t mem' pic' his'
play_stands moves keys randoms img mem pic his lent n o m t img' mem' pic' his' g l =
    let left : world_of img' mem' pic' his' ≡ standing (played_on moves keys randoms img mem pic his) =
    λ i. world_of (l.image i) (l.memory i) (l.picture i) (l.history i) in
    let gave : world m t mem' pic' his' ≡ (play moves keys randoms (world_of img mem pic his)).world =
    λ i. world (g.machine i) (g.trail i) (g.memory i) (g.picture i) (g.history i) in
    left ∙ (chains img mem pic his lent).play moves keys randoms ∙ sym gave
