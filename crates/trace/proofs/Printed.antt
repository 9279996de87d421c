-- While a trace is put: what stands so far, and what the steps from here on will add to it, is the whole.
use mathlib.Core.Path.{◌≡◌, sym, ◌∙◌}
use mathlib.Core.List.{List, ◌++◌, append_assoc}
use Prim.Native.Nat.{ℕ, suc, ◌+◌, ◌-◌, ◌*◌, ◌≤◌}
use native.Mathlib.Omega.{arith}
use borrow.Author.Tests.{ne_eqb}
use lib.ListN.{length}
use Rattle.rules.specs.declared.Machine.{Machine}
use Rattle.rules.specs.declared.Trail.{Trail}
use Rattle.rules.specs.declared.Refusal.{Refusal}
use Rattle.std.specs.Prelude.{Result}
use Rattle.rules.specs.World.{World, Answer, world}
use Rattle.rules.specs.Call.{step}
use Rattle.rules.specs.Promise.{Gives}
use Rattle.rules.specs.declared.Edition.{Edition}
use Rattle.rules.specs.Load.{load}
use Rattle.line.specs.Line.{header, stop_line}
use Rattle.trace.specs.Trace.{line_of, steps_from, blank_memory, blank_picture, blank_history, trace_of}

-- before step n; each step to come may take 25 bytes
pub record Printed (whole out : List ℕ) (n : ℕ) (w : World) : Type 0 where
  pub first : 1 ≤ n
  pub last : n ≤ 65
  pub room : length out + 25 * (65 - n) ≤ 1616
  pub done : out ++ steps_from (65 - n) n w ≡ whole

-- the world that a call hands back
pub handed : {A : Type 0} {a : Answer} {o : Result A Refusal} {m : Machine} {t : Trail} {mem pic his : List ℕ} → Gives a o m t mem pic his → a.world ≡ world m t mem pic his
handed g = λ i. record { machine = sym g.machine i; trail = sym g.trail i; memory = sym g.memory i; picture = sym g.picture i; history = sym g.history i }

module _ {whole out : List ℕ} {n : ℕ} {w : World} (p : Printed whole out n w) where
  -- a step is refused, after the 64th step, and a step is accepted
  pub stopped : {out' : List ℕ} {k : ℕ} → n ≤ 64 → (step 0 0 w).refusal ≡ k → (k ≡ 0 → ⊥) → out' ≡ out ++ stop_line k w.machine.pc → out' ≡ whole
  unfolding steps_from
  stopped {out'} {k} h e ne q =
      let one : 65 - n ≡ suc (64 - n) = omega arith in
      q ∙ rw (one, e, ne_eqb k 0 ne) at p.done

  pub ended : {out' : List ℕ} → n ≡ 65 → out' ≡ out ++ stop_line 0 w.machine.pc → out' ≡ whole
  unfolding steps_from
  ended h q = q ∙ rw h at p.done

  pub more : {out' : List ℕ} {w' : World} → n ≤ 64 → (step 0 0 w).refusal ≡ 0 → (step 0 0 w).world ≡ w' → out' ≡ out ++ line_of n w w' → length out' ≤ length out + 25
      → Printed whole out' (n + 1) w'
  unfolding steps_from
  more {out'} {w'} h e f q short =
      let one : 65 - n ≡ suc (65 - (n + 1)) = omega arith in
      record {
        first = omega arith;
        last = omega arith;
        room = omega (arith, short, p.room);
        done = rw (q, append_assoc) (rw (one, e, f) at p.done);
      }

-- ---- the whole trace: its header, and then what a load that is refused leaves, or the steps

abbrev start : Edition → ℕ → List ℕ → Answer
start edition end program = load edition end program blank_memory blank_picture blank_history

module _ (edition : Edition) (end : ℕ) (program : List ℕ) {out whole : List ℕ} (p : out ≡ header) where
  pub load_refused : {n : ℕ} {w : World} → (start edition end program).refusal ≡ n → (n ≡ 0 → ⊥) → (start edition end program).world ≡ w → whole ≡ out ++ stop_line n w.machine.pc
      → whole ≡ trace_of edition end program
  unfolding trace_of
  load_refused {n} e ne f q = q ∙ rw (p, e, ne_eqb n 0 ne, f)

  pub load_done : {w : World} → (start edition end program).refusal ≡ 0 → (start edition end program).world ≡ w → whole ≡ out ++ steps_from 64 1 w → whole ≡ trace_of edition end program
  unfolding trace_of
  load_done e f q = q ∙ rw (p, e, f)
