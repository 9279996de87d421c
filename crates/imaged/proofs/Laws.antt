-- What a call of the library gave, seen through the image.
use mathlib.Core.Path.{◌≡◌, refl, ap, ap₂, ◌∙◌}
use mathlib.Core.Bool.{Bool, true, false, false≢true, and-eq-true_iff}
use mathlib.Core.List.{List}
use Prim.Native.Nat.{ℕ}
use lib.ListN.{length}
use lib.Dec.{eqb, leb}
use borrow.Author.Tests.{ne_eqb}
use Rattle.rules.specs.declared.Machine.{Machine}
use Rattle.rules.specs.declared.Trail.{Trail}
use Rattle.std.specs.Prelude.{Result}
use Rattle.rules.specs.declared.Refusal.{Refusal}
use Rattle.rules.specs.Number.{pick}
use Rattle.rules.specs.Refusal.{number}
use Rattle.rules.specs.State.{sound}
use Rattle.rules.specs.Record.{byte_at}
use Rattle.rules.specs.World.{World, Answer, trail_fits, soundly}
use Rattle.rules.specs.Typed.{Below}
use Rattle.rules.specs.Run.{lists_fit, moves_fit, run, run_refusal, play, play_refusal}
use Rattle.rules.specs.Promise.{Gives}
use Rattle.rules.proofs.Choices.{by_test}
use Rattle.rules.proofs.Sound.{sound_parts}
use Rattle.rules.proofs.Given.{tested_sound}
use Rattle.image.specs.Image.{in_order, image_of, machine_of, trail_of}
use Rattle.image.proofs.ReadsBack.{reads_back}
use Rattle.imaged.specs.Imaged.{world_of, shown, Leaves}

-- written anew where the number of its outcome says so, and else left
pub seen : (anew : ℕ → Bool) (a : Answer) (image : List ℕ) (n : ℕ) {A : Type 0} (o : Result A Refusal) (m : Machine) (t : Trail) (img mem pic his : List ℕ)
    → Gives a o m t mem pic his → n ≡ number o → img ≡ pick (anew (number o)) (image_of m t) image
    → Leaves (shown (anew a.refusal) image a) n img mem pic his
seen anew a image n o m t img mem pic his g e w =
    record {
      says = e ∙ g.says;
      image = rw (g.says, g.machine, g.trail) at w;
      memory = g.memory;
      picture = g.picture;
      history = g.history;
    }

-- ---- a run and a play

module _ (first keys randoms : List ℕ) (w : World) where
  pub run_sound : run_refusal first keys randoms w ≡ 0 → soundly w ≡ true
  unfolding run_refusal
  run_sound e = tested_sound w (lists_fit first keys randoms) e

  pub run_left : (run_refusal first keys randoms w ≡ 0 → ⊥) → (run first keys randoms w).answer.world ≡ w
  unfolding run
  run_left ne = rw (ne_eqb (run_refusal first keys randoms w) 0 ne)

  pub play_sound : play_refusal first keys randoms w ≡ 0 → soundly w ≡ true
  unfolding play_refusal
  play_sound e = tested_sound w (moves_fit first keys randoms) e

  pub play_left : (play_refusal first keys randoms w ≡ 0 → ⊥) → (play first keys randoms w).world ≡ w
  unfolding play
  play_left ne = rw (ne_eqb (play_refusal first keys randoms w) 0 ne)

order_depth : (clear : Bool) (depth : ℕ) → leb (pick clear depth 255) 12 ≡ true → clear ≡ true
order_depth true depth e = refl
order_depth false depth e = absurd (false≢true e)

-- an image that stands for a sound state is in order
pub sound_order : (b : List ℕ) → sound (machine_of b) ≡ true → in_order b ≡ true
unfolding machine_of
sound_order b e = order_depth (in_order b) (byte_at b 20) (sound_parts (machine_of b) e).depth

-- where its own tests admit it the image stands for a sound state, and where they do not the call hands back the world as it came: so what
-- is written, wherever the image is in order, is what the definition says
module _ (image memory picture history : List ℕ) (size : length image ≡ 64) (bytes : Below 256 image) (own : ℕ) (a : Answer)
    (inner : own ≡ 0 → soundly (world_of image memory picture history) ≡ true)
    (outer : (own ≡ 0 → ⊥) → a.world ≡ world_of image memory picture history) where
  written : {img : List ℕ} (m : Machine) (t : Trail) → m ≡ a.world.machine → t ≡ a.world.trail
      → img ≡ pick (in_order image) (image_of m t) image → img ≡ pick (eqb own 0) (image_of a.world.machine a.world.trail) image
  written {img} m t em et w = by_test (λ (l : List ℕ). img ≡ l) own 0 admitted refused
    where
      again : image_of m t ≡ image_of a.world.machine a.world.trail
      again = ap₂ image_of em et

      admitted : own ≡ 0 → img ≡ image_of a.world.machine a.world.trail
      admitted e =
          let m₀ = machine_of image in
          let clear = sound_order image ((and-eq-true_iff (sound m₀) (trail_fits (trail_of image) history)).0 (inner e)).0 in
          (rw clear at w) ∙ again

      -- what is written of the world as it came is the same bytes
      unchanged : (own ≡ 0 → ⊥) → (clear : Bool) → in_order image ≡ clear → img ≡ pick clear (image_of m t) image → img ≡ image
      unchanged ne true z e =
          e ∙ again ∙ ap (λ (v : World). image_of v.machine v.trail) (outer ne) ∙ reads_back image size bytes z
      unchanged ne false z e = e

      refused : (own ≡ 0 → ⊥) → img ≡ image
      refused ne = unchanged ne (in_order image) refl w

  pub seen_list : (n : ℕ) {A : Type 0} (o : Result A Refusal) (m : Machine) (t : Trail) (img mem pic his : List ℕ)
      → Gives a o m t mem pic his → n ≡ number o → img ≡ pick (in_order image) (image_of m t) image
      → Leaves (shown (eqb own 0) image a) n img mem pic his
  seen_list n o m t img mem pic his g e w =
      record {
        says = e ∙ g.says;
        image = written m t g.machine g.trail w;
        memory = g.memory;
        picture = g.picture;
        history = g.history;
      }
