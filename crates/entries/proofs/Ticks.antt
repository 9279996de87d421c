-- Ticks, one after the other: each keeps what the next one asks, and what is still to be done gives the same world.
use mathlib.Core.Path.{◌≡◌, refl, sym, ap}
use mathlib.Core.List.{List, []}
use Prim.Native.Nat.{ℕ, zero, suc, ◌+◌, ◌-◌, ◌≤◌, ◌<◌}
use native.Mathlib.Omega.{arith}
use lib.ListN.{length}
use Rattle.rules.specs.declared.Machine.{Machine}
use Rattle.rules.specs.declared.Trail.{Trail}
use Rattle.std.specs.Prelude.{Result}
use Rattle.rules.specs.declared.Refusal.{Refusal}
use Rattle.rules.specs.Refusal.{done, number}
use Rattle.rules.specs.World.{World, Answer, world, places}
use Rattle.rules.specs.Call.{grown, ticked}
use Rattle.rules.specs.Run.{ticked_by, unrefused}
use Rattle.rules.specs.Promise.{Gives}
use Rattle.rules.proofs.Choices.{by_test}
use Rattle.rules.proofs.Given.{gives_as}
use Rattle.rules.proofs.Ready.{Ready, next_below}
use Rattle.trail.specs.InRange.{InRange}
use Rattle.ways.specs.declared.Counts.{Counts}
use Rattle.ways.specs.Steps.{Made}
use Rattle.ways.proofs.OneStep.{in_range}
use Rattle.ticking.specs.Tickable.{Tickable}

-- the world that a call gives
pub gives_world : {A : Type 0} (a : Answer) (o : Result A Refusal) (m : Machine) (t : Trail) (mem pic his : List ℕ) → Gives a o m t mem pic his
    → world m t mem pic his ≡ a.world
gives_world a o m t mem pic his g =
    λ i. record { machine = g.machine i; trail = g.trail i; memory = g.memory i; picture = g.picture i; history = g.history i }

pub world_gives : (w w' : World) → w ≡ w' → Gives (unrefused w') done w.machine w.trail w.memory w.picture w.history
world_gives w w' e =
    record {
      says = refl;
      machine = ap (λ (v : World). v.machine) e;
      trail = ap (λ (v : World). v.trail) e;
      memory = ap (λ (v : World). v.memory) e;
      picture = ap (λ (v : World). v.picture) e;
      history = ap (λ (v : World). v.history) e;
    }

-- a world that passed the tests 9 and 10 can be ticked
pub tickable : (w : World) → Ready w → Tickable w.machine w.trail w.history
tickable w h = record { shallow = h.good.machine.calls.most; most = h.most; range = in_range w h }

grown_range : (t : Trail) (r : ℕ) → InRange t r → InRange (grown r t) r
grown_range t r h =
    record {
      next = next_below r t.next h.next;
      kept = by_test (λ (k : ℕ). k ≤ r) t.kept r (λ e. omega arith) (λ e. omega (arith, h.kept));
      few = h.few;
    }

pub again_tickable : (m m' : Machine) (t t' : Trail) (his his' : List ℕ) → Tickable m t his → length his' ≡ length his
    → Gives (unrefused (ticked (world m t [] [] his))) done m' t' [] [] his' → Tickable m' t' his'
unfolding ticked
again_tickable m m' t t' his his' h same g =
    record {
      shallow = rw g.machine h.shallow;
      most = rw same h.most;
      range = rw (g.trail, same) (grown_range t (places his) h.range);
    }

pub one_less : (n : ℕ) (w : World) → 0 < n → ticked_by n w ≡ ticked_by (n - 1) (ticked w)
one_less zero w h = absurd (omega arith)
one_less (suc n) w h = let e : suc n - 1 ≡ n = omega arith in rw e

-- with k of n ticks made, one more leads on
pub one_more : (n k : ℕ) (w w' : World) → k < n → w' ≡ ticked w → ticked_by (n - (k + 1)) w' ≡ ticked_by (n - k) w
one_more n k w w' h e =
    let fewer : n - (k + 1) ≡ n - k - 1 = omega arith in
    rw (e, fewer) (sym (one_less (n - k) w (omega arith)))

-- what a step made stands, whichever of its parts are answered
pub made_as : {A B : Type 0} {keys random : ℕ} {w w' : World} {o : Result A Refusal} (p : Result B Refusal) {m : Machine} {t : Trail} {n : Counts} {mem pic his : List ℕ}
    → w ≡ w' → number p ≡ number o → Made keys random w o m t n mem pic his → Made keys random w' p m t n mem pic his
made_as p e same made =
    rw (← e)
    (record { gives = gives_as p same made.gives; dark = made.dark; dark_few = made.dark_few; copied = made.copied; copied_few = made.copied_few })
