-- What a run gave, seen through the image. Where its own tests admit it the image stands for a sound state, and where they do not the state is handed
-- back as it came: so what is written, wherever the image is in order, is what the definition says.
use mathlib.Core.Path.{◌≡◌, refl, ap, ◌∙◌}
use mathlib.Core.Bool.{Bool, true, false, ◌&&◌, and-eq-true_iff}
use mathlib.Core.List.{List}
use Prim.Native.Nat.{ℕ}
use lib.ListN.{length}
use lib.Dec.{eqb}
use borrow.Author.Tests.{ne_eqb}
use Rattle.rules.specs.declared.Machine.{Machine}
use Rattle.rules.specs.Number.{pick}
use Rattle.rules.specs.Refusal.{Outcome, number}
use Rattle.rules.specs.State.{sound}
use Rattle.rules.specs.Run.{lists_fit}
use Rattle.rules.specs.Typed.{Below}
use Rattle.rules.proofs.Choices.{by_test, passed}
use Rattle.image.specs.Image.{in_order, image_of, machine_of, trail_of}
use Rattle.image.proofs.ReadsBack.{reads_back}
use Rattle.imaged.proofs.Laws.{sound_order}
use Rattle.spots.specs.Spots.{all_spots}
use Rattle.plain.specs.Plain.{plain_refusal, plain_run, GivesPlain}
use Rattle.imaged_plain.specs.PlainOn.{plain_of, plain_on, LeavesPlain}

module _ (ticks keys randoms image mem spots : List ℕ) where
  abbrev own : ℕ
  own = plain_refusal ticks keys randoms (machine_of image) mem spots

  -- an admitted run was handed a sound state
  pub admitted_sound : own ≡ 0 → sound (machine_of image) ≡ true
  unfolding plain_refusal
  admitted_sound e =
      let second = (passed (eqb (length mem) 4096 && eqb (length spots) 2048 && lists_fit ticks keys randoms) 8 _ e).1 in
      ((and-eq-true_iff (sound (machine_of image)) (all_spots spots)).0 (passed (sound (machine_of image) && all_spots spots) 9 0 second).0).0

  -- a refused one hands the state back as it came
  pub refused_machine : (own ≡ 0 → ⊥) → (plain_of ticks keys randoms image mem spots).machine ≡ machine_of image
  unfolding plain_run
  refused_machine ne = rw (ne_eqb own 0 ne)

  module _ (size : length image ≡ 64) (bytes : Below 256 image) where
    written : {img : List ℕ} (m : Machine) → m ≡ (plain_of ticks keys randoms image mem spots).machine
        → img ≡ pick (in_order image) (image_of m (trail_of image)) image → img ≡ (plain_on ticks keys randoms image mem spots).image
    written {img} m em w = by_test (λ (l : List ℕ). img ≡ l) own 0 admitted refused
      where
        admitted : own ≡ 0 → img ≡ image_of (plain_of ticks keys randoms image mem spots).machine (trail_of image)
        admitted e = (rw (sound_order image (admitted_sound e)) at w) ∙ ap (λ (n : Machine). image_of n (trail_of image)) em

        unchanged : (own ≡ 0 → ⊥) → (clear : Bool) → in_order image ≡ clear → img ≡ pick clear (image_of m (trail_of image)) image → img ≡ image
        unchanged ne true z e = e ∙ ap (λ (n : Machine). image_of n (trail_of image)) (em ∙ refused_machine ne) ∙ reads_back image size bytes z
        unchanged ne false z e = e

        refused : (own ≡ 0 → ⊥) → img ≡ image
        refused ne = unchanged ne (in_order image) refl w

    pub seen : (k n : ℕ) (o : Outcome) (m : Machine) (img mem' spots' : List ℕ)
        → GivesPlain (plain_of ticks keys randoms image mem spots) k o m mem' spots' → n ≡ number o
        → img ≡ pick (in_order image) (image_of m (trail_of image)) image → LeavesPlain (plain_on ticks keys randoms image mem spots) n img mem' spots'
    seen k n o m img mem' spots' g e w =
        record { says = e ∙ g.says; image = written m g.machine w; memory = g.memory; spots = g.picture }
