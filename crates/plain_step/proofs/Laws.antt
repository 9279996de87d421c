-- An instruction and a step on a board: what they leave where they are refused, and where they are done. One that leaves the picture leaves the
-- number of lit spots, and is refused by numbers of its own alone.
use mathlib.Core.Path.{◌≡◌, refl, sym, ap, ◌∙◌}
use mathlib.Core.List.{List}
use Prim.Native.Nat.{ℕ, ◌-◌, ◌≤◌, ◌<◌}
use Rattle.std.specs.Prelude.{Result, Ok, Err}
use borrow.Author.Tests.{le-leb, lt-leb, eq-eqb, ne_eqb}
use Rattle.rules.specs.declared.Machine.{Machine}
use Rattle.rules.specs.declared.Op.{Op}
use Rattle.rules.specs.declared.Refusal.{Refusal}
use Rattle.rules.specs.declared.Refusal.TheVariants.{PcPastEnd}
use Rattle.rules.specs.Refusal.{number_of}
use Rattle.rules.specs.Step.{Board, refusal_of, lit_refusal, counted, after, picture_after}
use Rattle.rules.specs.Call.{op_at, step_own}
use Rattle.rules.proofs.Choices.{by_test, no_later}
use Rattle.rules.proofs.Counted.{same_passes}
use Rattle.rules.proofs.Still.{after_lit, counted_same}
use Rattle.rules.proofs.Given.{some_number}
use Rattle.spots.specs.Spots.{picture_of, AreSpots}
use Rattle.plain_step.specs.Does.{board_on, Playable, Leaves, own_of, done_by, stepped_to}

-- a board handed back as it came
same_board : {A : Type 0} (n : ℕ) (m : Machine) (mem spots : List ℕ) (r : Refusal) → AreSpots spots → number_of r ≡ n
    → Leaves {A = A} n (board_on m mem spots) (Err r) m mem spots
same_board n m mem spots r are e = record { says = e; machine = refl; memory = refl; picture = refl; are = are }

module _ (m : Machine) (mem spots : List ℕ) (p : Playable m mem spots) where
  abbrev b : Board
  b = board_on m mem spots

  abbrev P : List ℕ
  P = picture_of spots

  -- ---- an instruction

  module _ (op : Op) (keys random : ℕ) where
    abbrev led : Board
    led = after op keys random m mem P

    refused_by : {A : Type 0} (r : Refusal) → number_of r ≡ own_of op b → Leaves {A = A} (own_of op b) (done_by op keys random b) (Err r) m mem spots
    unfolding done_by
    refused_by {A = A} r e =
        by_test (λ (a : Board). Leaves {A = A} (own_of op b) a (Err r) m mem spots) (own_of op b) 0 (λ z. absurd (some_number r (e ∙ z)))
        (λ ne. same_board (own_of op b) m mem spots r p.are e)

    -- by a number of its own, and by the late one where it has no other
    pub refused_early : {A : Type 0} (r : Refusal) → number_of r ≡ refusal_of op m
        → Leaves {A = A} (own_of op b) (done_by op keys random b) (Err r) m mem spots
    unfolding own_of
    refused_early r e = refused_by r (e ∙ rw (ne_eqb (refusal_of op m) 0 (λ z. some_number r (e ∙ z))))

    abbrev late : ℕ
    late = lit_refusal m.lit P (picture_after op m mem P)

    pub own_late : refusal_of op m ≡ 0 → own_of op b ≡ late
    unfolding own_of
    own_late first = rw first

    pub refused_late : {A : Type 0} (r : Refusal) → refusal_of op m ≡ 0 → number_of r ≡ late
        → Leaves {A = A} (own_of op b) (done_by op keys random b) (Err r) m mem spots
    refused_late r first e = refused_by r (e ∙ sym (own_late first))

    pub done_by_law : {A : Type 0} {x : A} {m' : Machine} {mem' spots' : List ℕ} → own_of op b ≡ 0 → m' ≡ (counted b led).machine → mem' ≡ led.memory
        → picture_of spots' ≡ led.picture → AreSpots spots' → Leaves (own_of op b) (done_by op keys random b) (Ok x) m' mem' spots'
    unfolding done_by
    done_by_law z machine memory picture are =
        rw (eq-eqb (own_of op b) 0 z) (record { says = sym z; machine = machine; memory = memory; picture = picture; are = are })

    -- where the picture stays
    module _ (stays : picture_after op m mem P ≡ P) where
      own_left : own_of op b ≡ refusal_of op m
      unfolding own_of
      own_left = rw stays (no_later (refusal_of op m) (lit_refusal m.lit P P) (same_passes m.lit P p.good.machine.lit))

      pub done_still : {A : Type 0} {x : A} {m' : Machine} {mem' : List ℕ} → led.picture ≡ P → refusal_of op m ≡ 0 → m' ≡ led.machine → mem' ≡ led.memory
          → Leaves (own_of op b) (done_by op keys random b) (Ok x) m' mem' spots
      done_still same z machine memory =
          done_by_law (own_left ∙ z) (machine ∙ ap (λ (a : Board). a.machine) (sym (counted_same b led (after_lit op keys random m mem P) same))) memory (sym same)
          p.are

  -- ---- a step

  module _ (keys random : ℕ) where
    pub too_far : {A : Type 0} → m.end - 2 < m.pc → Leaves {A = A} (step_own b) (stepped_to keys random b) (Err PcPastEnd) m mem spots
    unfolding stepped_to
    too_far h = rw (lt-leb m.pc (m.end - 2) h) (same_board 1 m mem spots PcPastEnd p.are refl)

    pub one_step : {A : Type 0} (op : Op) (o : Result A Refusal) (m' : Machine) (mem' spots' : List ℕ) → m.pc ≤ m.end - 2 → op ≡ op_at b
        → Leaves (own_of op b) (done_by op keys random b) o m' mem' spots' → Leaves (step_own b) (stepped_to keys random b) o m' mem' spots'
    unfolding stepped_to own_of done_by
    one_step op o m' mem' spots' h e l = rw (le-leb m.pc (m.end - 2) h) (rw e at l)
