-- A run of one entry without a tick is its step: where it is accepted nothing is left to be done, and where it is refused the run ends.
use mathlib.Core.Path.{◌≡◌, refl, sym, ◌∙◌}
use mathlib.Core.Bool.{true}
use mathlib.Core.List.{List, [], ◌∷◌}
use Prim.Native.Nat.{ℕ, ◌+◌, ◌≤◌}
use native.Mathlib.Omega.{arith}
use lib.Dec.{eqb}
use borrow.Author.Tests.{ne_eqb}
use Rattle.rules.specs.declared.Machine.{Machine}
use Rattle.rules.specs.declared.Trail.{Trail}
use Rattle.std.specs.Prelude.{Result, Err}
use Rattle.rules.specs.declared.Refusal.{Refusal}
use Rattle.rules.specs.Number.{pick}
use Rattle.rules.specs.World.{World, Answer, buffers_fit, soundly}
use Rattle.rules.specs.Call.{step, step_refusal}
use Rattle.rules.specs.Run.{Ran, run_from, run, run_refusal, total_from, total}
use Rattle.rules.specs.Dark.{step_dark, run_dark}
use Rattle.rules.specs.Promise.{Gives}
use Rattle.rules.proofs.Choices.{by_test}
use Rattle.rules.proofs.Given.{tests, settled, some_number, answer_number}

module _ (keys random : ℕ) (w : World) where
  -- the step is refused by the first two tests, as the run is
  same_refusal : (tests w true ≡ 0 → ⊥) → step_refusal w ≡ tests w true
  unfolding step_refusal
  same_refusal ne = sym (settled (buffers_fit w) (soundly w) _ ne)

  entry_answer : (run_from 0 (0 ∷ []) (keys ∷ []) (random ∷ []) w).answer ≡ step keys random w
  unfolding run_from
  entry_answer =
      let a = step keys random w in
      by_test (λ (r : Ran). r.answer ≡ a) a.refusal 0 (λ z i. record { refusal = sym z i; world = a.world }) (λ ne. refl)

  entry_dark : total_from step_dark (0 ∷ []) (keys ∷ []) (random ∷ []) w ≡ step_dark w
  unfolding total_from step_dark step
  entry_dark =
      by_test (λ (a : Answer). pick (eqb a.refusal 0) (step_dark w + 0) 0 ≡ step_dark w) (step_refusal w) 0 (λ z. omega arith)
      (λ ne. rw (ne_eqb (step_refusal w) 0 ne))

  entry_few : (run_from 0 (0 ∷ []) (keys ∷ []) (random ∷ []) w).accepted ≤ 1
  unfolding run_from
  entry_few = by_test (λ (r : Ran). r.accepted ≤ 1) (step keys random w).refusal 0 (λ z. omega arith) (λ ne. omega arith)

  alone : (run (0 ∷ []) (keys ∷ []) (random ∷ []) w).answer ≡ step keys random w
  unfolding run run_refusal step
  alone =
      by_test (λ (r : Ran). r.answer ≡ step keys random w) (tests w true) 0 (λ z. entry_answer)
      (λ ne. rw (same_refusal ne, ne_eqb (tests w true) 0 ne))

  pub alone_gives : {A : Type 0} (o : Result A Refusal) (m : Machine) (t : Trail) (mem pic his : List ℕ)
      → Gives (run (0 ∷ []) (keys ∷ []) (random ∷ []) w).answer o m t mem pic his → Gives (step keys random w) o m t mem pic his
  alone_gives o m t mem pic his g = rw alone at g

  pub alone_dark : run_dark (0 ∷ []) (keys ∷ []) (random ∷ []) w ≡ step_dark w
  unfolding total run_refusal step_dark
  alone_dark =
      by_test (λ (n : ℕ). n ≡ step_dark w) (tests w true) 0 (λ z. entry_dark)
      (λ ne. rw (same_refusal ne, ne_eqb (tests w true) 0 ne))

  -- a refused one darkens nothing
  pub refused_dark : {A : Type 0} (r : Refusal) (m : Machine) (t : Trail) (mem pic his : List ℕ) → Gives {A = A} (step keys random w) (Err r) m t mem pic his → step_dark w ≡ 0
  unfolding step step_dark
  refused_dark r m t mem pic his g =
      rw (ne_eqb (step_refusal w) 0 (λ z. some_number r (g.says ∙ answer_number (step_refusal w) _ w ∙ z)))

  pub alone_few : (run (0 ∷ []) (keys ∷ []) (random ∷ []) w).accepted ≤ 1
  unfolding run run_refusal
  alone_few = by_test (λ (r : Ran). r.accepted ≤ 1) (tests w true) 0 (λ z. entry_few) (λ ne. omega arith)
