-- The equality: where the run is admitted, both are the run of the boards; where it is refused, both hand back what came, by the same tests.
use mathlib.Core.Path.{◌≡◌, refl, sym, ap, ◌∙◌}
use mathlib.Core.Bool.{and-eq-true_iff}
use mathlib.Core.List.{List}
use Prim.Native.Nat.{ℕ}
use native.Mathlib.Decide.{ℕ_discrete}
use borrow.Author.Tests.{eq-eqb, ne_eqb}
use Rattle.rules.specs.Number.{unless}
use Rattle.rules.specs.State.{sound}
use Rattle.rules.specs.Step.{Board}
use Rattle.rules.specs.World.{World, board_of, trail_fits}
use Rattle.rules.specs.Run.{Ran, run, run_refusal, lists_fit}
use Rattle.rules.proofs.OnlyOne.{one_outcome}
use Rattle.rules.proofs.Ready.{fits_passed}
use Rattle.spots.specs.Spots.{spots_of}
use Rattle.spots.proofs.Forms.{spots_size, picture_back, spots_are}
use Rattle.spots.proofs.Walked.{below_all}
use Rattle.plain_step.specs.Does.{board_on}
use Rattle.plain.specs.Gone.{Gone}
use Rattle.plain.specs.Plain.{in_spots, plain_refusal, plain_run}
use Rattle.plain.specs.Equal.{Beside, Equal, Given, RunsEqual, EnginesEqual, PlainOnlyOne}
use Rattle.plain.proofs.Beside.{any_history}

module _ (ticks keys randoms : List ℕ) (w : World) (g : Given w) where
  abbrev spots : List ℕ
  spots = spots_of w.picture

  -- the tests leave the lists alone to be looked at, in both
  first_left : run_refusal ticks keys randoms w ≡ unless (lists_fit ticks keys randoms) 9 0
  unfolding run_refusal
  first_left = rw (g.fits, g.sound)

  second_left : plain_refusal ticks keys randoms w.machine w.memory spots ≡ unless (lists_fit ticks keys randoms) 9 0
  unfolding plain_refusal
  second_left =
      let p = fits_passed w g.fits in
      let healthy = ((and-eq-true_iff (sound w.machine) (trail_fits w.trail w.history)).0 g.sound).0 in
      rw (eq-eqb _ _ p.memory, eq-eqb _ _ (spots_size w.picture), healthy, below_all spots (spots_are w.picture).each)

  same_refusal : plain_refusal ticks keys randoms w.machine w.memory spots ≡ run_refusal ticks keys randoms w
  same_refusal = second_left ∙ sym first_left

  -- the picture that the spots are is the world's
  same_board : board_on w.machine w.memory spots ≡ board_of w
  same_board =
      let back = picture_back w.picture (fits_passed w g.fits).picture g.typed.picture in
      λ i. record { machine = w.machine; memory = w.memory; picture = back i }

  -- a run beside a history, and the same seen in spots
  seen : (r : Ran) (q : Gone) → Beside r q → Equal r (in_spots q)
  seen r q b =
      record {
        accepted = b.accepted;
        refusal = b.refusal;
        machine = ap (λ (c : Board). c.machine) b.board;
        memory = ap (λ (c : Board). c.memory) b.board;
        spots = ap (λ (c : Board). spots_of c.picture) (sym b.board);
      }

  equal : Equal (run ticks keys randoms w) (plain_run ticks keys randoms w.machine w.memory spots)
  unfolding run plain_run
  equal = by (ℕ_discrete (run_refusal ticks keys randoms w) 0)
    where
      by : Dec (run_refusal ticks keys randoms w ≡ 0) → Equal (run ticks keys randoms w) (plain_run ticks keys randoms w.machine w.memory spots)
      by (yes e) =
          rw (eq-eqb (plain_refusal ticks keys randoms w.machine w.memory spots) 0 (same_refusal ∙ e), same_board)
          (seen _ _ (any_history ticks keys randoms w g.typed e))
      by (no ne) =
          rw (same_refusal, ne_eqb (run_refusal ticks keys randoms w) 0 ne)
          (record { accepted = refl; refusal = refl; machine = refl; memory = refl; spots = refl })

pub runs_equal : RunsEqual
runs_equal = equal

pub plain_only_one : PlainOnlyOne
plain_only_one p a b g h =
    let accepted = g.accepted ∙ sym h.accepted in
    let outcome = one_outcome a.outcome b.outcome (g.says ∙ sym h.says) in
    let machine = g.machine ∙ sym h.machine in
    let memory = g.memory ∙ sym h.memory in
    let spots = g.picture ∙ sym h.picture in
    λ i. record { accepted = accepted i; outcome = outcome i; machine = machine i; memory = memory i; spots = spots i }

pub engines_equal : EnginesEqual
engines_equal ticks keys randoms m t memory rows history g n n' o o' m₁ m₂ t₁ mem₁ mem₂ rows₁ his₁ spots₂ a b =
    let e = runs_equal ticks keys randoms _ g in
    record {
      accepted = a.accepted ∙ e.accepted ∙ sym b.accepted;
      outcome = one_outcome o o' (a.rest.says ∙ e.refusal ∙ sym b.says);
      machine = a.rest.machine ∙ e.machine ∙ sym b.machine;
      memory = a.rest.memory ∙ e.memory ∙ sym b.memory;
      spots = b.picture ∙ e.spots ∙ ap spots_of (sym a.rest.picture);
    }
