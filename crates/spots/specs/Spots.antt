-- Request Q-11: a picture as spots, one number for each of 2,048: 0 dark, 1 lit, rows from the top, left to right. What spots mean is said by the
-- 256 bytes that they are, so the picture rules stay as they stand.
use Rattle.std.specs.Prelude.{◌≡◌, Bool, true, ◌&&◌, List, [], ◌∷◌, ◌++◌, ℕ, zero, suc, ◌+◌, ◌*◌, ◌/◌, ◌%◌, get_or, length, replicate, T, leb}
use Rattle.rules.specs.Number.{same}
use Rattle.rules.specs.State.{picture_size, spot_count}
use Rattle.rules.specs.Picture.{spot, bytes_from}
use Rattle.rules.specs.Typed.{Below}

-- the spot in column x of row y
abbrev pub spot_at : List ℕ → ℕ → ℕ → ℕ
spot_at spots x y = get_or spots (64 * y + x) 0

-- the picture's bytes, made of the spots
unfoldable pub picture_of : List ℕ → List ℕ
picture_of spots = bytes_from (spot_at spots) picture_size 0

-- the `left` spots from s on, row after row
unfoldable pub spots_from : (ℕ → ℕ → ℕ) → ℕ → ℕ → List ℕ
spots_from f zero s = []
spots_from f (suc left) s = f (s % 64) (s / 64) ∷ spots_from f left (s + 1)

-- and the spots of a picture
unfoldable pub spots_of : List ℕ → List ℕ
spots_of picture = spots_from (spot picture) spot_count 0

-- each is 0 or 1
abbrev pub all_spots : List ℕ → Bool
all_spots [] = true
all_spots (s ∷ rest) = leb s 1 && all_spots rest

-- 2,048 of them, each 0 or 1
pub record AreSpots (spots : List ℕ) : Type 0 where
  pub size : length spots ≡ spot_count
  pub each : Below 2 spots

-- ---- a worked case, computed: the first and the last spot of the top row, and the first spot of the row beneath it; that the bytes come
-- back out of their spots is claimed of every picture below

abbrev their_bytes : List ℕ
their_bytes = 0x80 ∷ 0 ∷ 0 ∷ 0 ∷ 0 ∷ 0 ∷ 0 ∷ 0x01 ∷ 0x80 ∷ replicate 247 0

abbrev their_spots : List ℕ
their_spots = 1 ∷ replicate 62 0 ++ 1 ∷ 1 ∷ replicate 1983 0

turned : T (same (spots_of their_bytes) their_spots)
unfolding spots_from spots_of
turned = tt

-- ---- THE CLAIMS, proved in proofs/Forms.antt: nothing is lost between the two forms

abbrev pub SpotsBack : Type 0
SpotsBack = (spots : List ℕ) → AreSpots spots → spots_of (picture_of spots) ≡ spots

abbrev pub PictureBack : Type 0
PictureBack = (picture : List ℕ) → length picture ≡ picture_size → Below 256 picture → picture_of (spots_of picture) ≡ picture
