-- From a world that is ready, beside a history of bytes, every move leads to such a world, accepted or not; so do a play and a run.
use mathlib.Core.Path.{◌≡◌}
use mathlib.Core.List.{List}
use Prim.Native.Nat.{ℕ, ◌*◌}
use borrow.Author.Tests.{eq-eqb}
use Rattle.rules.specs.declared.Action.{Action}
use Rattle.rules.specs.declared.Action.TheVariants.{Step, Tick}
use Rattle.rules.specs.declared.Change.{Change}
use Rattle.rules.specs.declared.Change.TheVariants.{Nothing, InMemory, InPicture}
use Rattle.rules.specs.Record.{old, action_at}
use Rattle.rules.specs.World.{World, board_of}
use Rattle.rules.specs.Call.{change_by, written, stepped, ticked, undone, next_record, redone}
use Rattle.rules.specs.Run.{lists_fit, moves_fit, moves_of, unrefused, play_refusal, play, run_refusal, run}
use Rattle.rules.specs.Typed.{Below, none, TypedBoard}
use Rattle.rules.proofs.Parts.{below_take, below_drop, below_over}
use Rattle.rules.proofs.Back.{record_bytes}
use Rattle.rules.proofs.Ready.{Ready, stepped_ready, ticked_ready, undone_ready, redone_ready}
use Rattle.rules.proofs.Given.{tested_ready}
use Rattle.rules.proofs.Each.{Lasts, plays_last, runs_last}

pub record Lasting (w : World) : Type 0 where
  pub ready : Ready w
  pub bytes : Below 256 w.history

-- ---- the history that a call leaves

old_bytes : (c : Change) {memory picture : List ℕ} → Below 256 memory → Below 256 picture → Below 256 (old c memory picture)
old_bytes Nothing m p = none
old_bytes (InMemory s n) m p = below_take (below_drop m s) n
old_bytes (InPicture s n) m p = below_take (below_drop p s) n

module _ (w : World) (h : Lasting w) where
  written_bytes : (a : Action) → Below 256 (written a w)
  written_bytes a =
      let g = h.ready.good in
      let c = change_by a (board_of w) in
      below_over h.bytes (record_bytes w.machine c _ a g.machine (old_bytes c g.memory.below g.picture.below))
      (292 * w.trail.next) 292

pub lasting : Lasts Lasting
unfolding stepped ticked undone redone
lasting =
    record {
      step = λ keys random w e h. record {
        ready = stepped_ready w h.ready keys random e;
        bytes = written_bytes w h (Step keys random);
      };
      tick = λ w h. record { ready = ticked_ready w h.ready; bytes = written_bytes w h Tick };
      back = λ w e h. record { ready = undone_ready w h.ready h.bytes e; bytes = h.bytes };
      forward = λ w e h. record {
        ready = redone_ready w h.ready e;
        bytes = written_bytes w h (action_at (next_record w));
      };
    }

-- ---- the calls on lists, from a world that passes the first two tests

module _ (first keys randoms : List ℕ) (w : World) (t : TypedBoard (board_of w)) (bytes : Below 256 w.history) where
  pub play_lasts : play_refusal first keys randoms w ≡ 0 → Lasting (play first keys randoms w).world
  unfolding play play_refusal
  play_lasts e =
      let start : Lasting w = record { ready = tested_ready w (moves_fit first keys randoms) t e; bytes = bytes } in
      rw (eq-eqb (play_refusal first keys randoms w) 0 e) (plays_last Lasting lasting (moves_of first keys randoms) (unrefused w) start)

  pub run_lasts : run_refusal first keys randoms w ≡ 0 → Lasting (run first keys randoms w).answer.world
  unfolding run run_refusal
  run_lasts e =
      let start : Lasting w = record { ready = tested_ready w (lists_fit first keys randoms) t e; bytes = bytes } in
      rw (eq-eqb (run_refusal first keys randoms w) 0 e) (runs_last Lasting lasting 0 first keys randoms w start)
