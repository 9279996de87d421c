-- What a run of the plain engine leaves of an image that stands for a machine, and of what is lent beside it: its refusal number, 0 for done, and
-- every byte. Next, kept and ahead of the image play no part and stay.
use Rattle.std.specs.Prelude.{◌≡◌, List, ℕ, length, eqb}
use Rattle.rules.specs.Number.{pick}
use Rattle.rules.specs.Typed.{Below}
use Rattle.image.specs.Image.{image_size, image_of, machine_of, trail_of}
use Rattle.plain.specs.Plain.{PlainRan, plain_refusal, plain_run}

pub record PlainCard : Type 0 where
  pub refusal : ℕ
  pub image : List ℕ
  pub memory : List ℕ
  pub spots : List ℕ

-- the run of the machine that an image stands for
abbrev pub plain_of : List ℕ → List ℕ → List ℕ → List ℕ → List ℕ → List ℕ → PlainRan
plain_of ticks keys randoms image memory spots = plain_run ticks keys randoms (machine_of image) memory spots

-- a run that passes its own tests, 9 and 10, writes the image, whatever ends it
abbrev pub plain_on : List ℕ → List ℕ → List ℕ → List ℕ → List ℕ → List ℕ → PlainCard
plain_on ticks keys randoms image memory spots =
    let p = plain_of ticks keys randoms image memory spots in
    record {
      refusal = p.refusal;
      image = pick (eqb (plain_refusal ticks keys randoms (machine_of image) memory spots) 0) (image_of p.machine (trail_of image)) image;
      memory = p.memory;
      spots = p.spots;
    }

-- the promise: what a call leaves is what the definition says, part by part
pub record LeavesPlain (c : PlainCard) (n : ℕ) (img mem pic : List ℕ) : Type 0 where
  pub says : n ≡ c.refusal
  pub image : img ≡ c.image
  pub memory : mem ≡ c.memory
  pub spots : pic ≡ c.spots

-- ---- THE CLAIM, proved in proofs/Chains.antt: a call on the image that such a run left follows it as on a state. Where the image has its size
-- and all that is lent is bytes, it stands afterwards for the machine that the run gave, with the numbers that it had.

pub record Follows (image : List ℕ) (p : PlainRan) (c : PlainCard) : Type 0 where
  pub machine : machine_of c.image ≡ p.machine
  pub trail : trail_of c.image ≡ trail_of image

abbrev pub PlainChains : Type 0
PlainChains =
    (ticks keys randoms image memory spots : List ℕ) → length image ≡ image_size → Below 256 image → Below 256 memory
    → Follows image (plain_of ticks keys randoms image memory spots) (plain_on ticks keys randoms image memory spots)
