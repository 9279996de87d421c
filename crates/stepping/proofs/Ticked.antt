-- The tests 9 and 10 before a tick: where they refuse, that is what the tick gives, and where they pass it can be taken.
use mathlib.Core.Path.{◌≡◌}
use mathlib.Core.Bool.{true, ◌&&◌, and-eq-true_iff}
use mathlib.Core.List.{List}
use Prim.Native.Nat.{ℕ, ◌+◌}
use native.Mathlib.Omega.{arith}
use lib.ListN.{length}
use lib.Dec.{ltb, leb}
use borrow.Author.Tests.{ltb-true, leb-true}
use Rattle.rules.specs.declared.Machine.{Machine}
use Rattle.rules.specs.declared.Trail.{Trail}
use Rattle.rules.specs.declared.Refusal.{Refusal}
use Rattle.std.specs.Prelude.{Result, Ok, Err, ⊤}
use Rattle.rules.specs.Number.{unless}
use Rattle.rules.specs.Refusal.{number, number_of}
use Rattle.rules.specs.State.{sound}
use Rattle.rules.specs.World.{World, world, places, history_fits, trail_fits, soundly}
use Rattle.rules.specs.Call.{tick, ticked, tick_refusal}
use Rattle.rules.specs.Run.{unrefused}
use Rattle.rules.proofs.Sound.{sound_parts}
use Rattle.rules.proofs.Given.{Back, given_refused, answered_done, both_passed}
use Rattle.ticking.specs.Tickable.{Tickable}

pub tick_refused : (w : World) (r : Refusal) → number_of r ≡ unless (history_fits w.history) 9 (unless (soundly w) 10 0)
    → Back {A = ⊤} (tick w) (Err r) w
unfolding tick tick_refusal
tick_refused w r e = given_refused (tick_refusal w) (ticked w) w r e

-- ---- a tick that passes

module _ {A : Type 0} (m : Machine) (t : Trail) (his : List ℕ) (o : Result A Refusal) (x : A)
    (e : number o ≡ unless (history_fits his) 9 (unless (sound m && trail_fits t his) 10 0)) (d : o ≡ Ok x) where
  tick_passed : (history_fits his ≡ true) × ((sound m && trail_fits t his) ≡ true)
  tick_passed = both_passed (history_fits his) (sound m && trail_fits t his) o x e d

  pub tick_tickable : Tickable m t his
  tick_tickable =
      let (fits, sounds) = tick_passed in
      let room = (and-eq-true_iff (leb 292 (length his)) (leb (length his) 65536)).0 fits in
      let parts = (and-eq-true_iff (sound m) (trail_fits t his)).0 sounds in
      let range = (and-eq-true_iff (ltb t.next (places his)) (leb (t.kept + t.ahead) (places his))).0 parts.1 in
      let most = leb-true (length his) 65536 room.1 in
      record {
        shallow = leb-true m.depth 12 (sound_parts m parts.0).depth;
        most = most;
        range = record { next = ltb-true _ _ range.0; kept = omega (arith, leb-true (t.kept + t.ahead) (places his) range.1); few = omega arith };
      }

  pub tick_done : (memory picture : List ℕ) → tick (world m t memory picture his) ≡ unrefused (ticked (world m t memory picture his))
  unfolding tick tick_refusal
  tick_done memory picture =
      let (fits, sounds) = tick_passed in
      let w = world m t memory picture his in
      answered_done (tick_refusal w) (ticked w) w (rw (fits, sounds))
