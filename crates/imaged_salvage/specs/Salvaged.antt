-- What a salvage leaves of an image that stands for a machine, and of what is lent beside it: its refusal number, 0 for done, and every byte.
use Rattle.std.specs.Prelude.{◌≡◌, List, ℕ, length, eqb}
use Rattle.rules.specs.Number.{pick}
use Rattle.rules.specs.Typed.{Below}
use Rattle.image.specs.Image.{image_size, image_of, machine_of, trail_of}
use Rattle.salvage.specs.Salvage.{Salvage, salvage}

-- the salvage beside the state and the numbers that an image stands for
abbrev pub salvage_of : List ℕ → List ℕ → List ℕ → Salvage
salvage_of image history list = salvage (machine_of image) (trail_of image) history list

-- an accepted call writes the image, of the same state with the new numbers; a refused one leaves it
abbrev pub image_after : List ℕ → Salvage → List ℕ
image_after image s = pick (eqb s.refusal 0) (image_of (machine_of image) s.trail) image

-- the promise: what a call leaves is what the definition says, part by part
pub record LeavesSalvage (before : List ℕ) (s : Salvage) (n : ℕ) (img his lst : List ℕ) : Type 0 where
  pub says : n ≡ s.refusal
  pub image : img ≡ image_after before s
  pub history : his ≡ s.history
  pub list : lst ≡ s.list

-- ---- THE CLAIM, proved in proofs/Chains.antt: a call on the image that a salvage left follows it as on a state. Where the image has its size
-- and is bytes, it stands for the same state afterwards, with the numbers that the salvage handed back.

pub record Follows (image : List ℕ) (s : Salvage) : Type 0 where
  pub machine : machine_of (image_after image s) ≡ machine_of image
  pub trail : trail_of (image_after image s) ≡ s.trail

abbrev pub SalvageChains : Type 0
SalvageChains = (image history list : List ℕ) → length image ≡ image_size → Below 256 image → Follows image (salvage_of image history list)
