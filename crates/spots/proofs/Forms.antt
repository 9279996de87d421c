-- Spots and the picture made of them: spot for spot they are equal, so what the rules say of the picture is said of the spots.
use mathlib.Core.Path.{◌≡◌, refl, sym, ap, ap₂, ◌∙◌}
use mathlib.Core.List.{List}
use Prim.Native.Nat.{ℕ, zero, suc, ◌+◌, ◌-◌, ◌*◌, ◌/◌, ◌%◌, ◌<◌, min}
use native.Mathlib.Nat.{zero-add, add-zero, not-suc-le-zero}
use native.Mathlib.Omega.{arith}
use lib.ListN.{get_or, length, replicate, length-replicate, get_or-replicate}
use lib.Seq.{ext_get_or}
use lib.Bits.{differ}
use Rattle.rules.specs.Number.{bit}
use Rattle.rules.specs.Picture.{spot, shown, bytes_from, drawn, sum_from, darkened, lit_spots}
use Rattle.rules.proofs.Good.{Bytes}
use Rattle.rules.proofs.Parts.{below_get, below_of, below_zeros}
use Rattle.rules.proofs.Counted.{lit_sum}
use Rattle.rules.proofs.Drawn.{bit_lit, digit, eight, mask, byte, bytes_at, bytes_length}
use Rattle.rules.proofs.Spots.{drawn_spot, bytes_same, sum_same, whole}
use Rattle.spots.specs.Spots.{spot_at, picture_of, spots_from, spots_of, AreSpots, SpotsBack, PictureBack}

pub spot_small : {spots : List ℕ} → AreSpots spots → (k : ℕ) → get_or spots k 0 < 2
spot_small a = below_get (omega arith) a.each

-- ---- the picture made of spots

module _ (spots : List ℕ) (a : AreSpots spots) where
  pub picture_spot : (x y : ℕ) → x < 64 → y < 32 → spot (picture_of spots) x y ≡ spot_at spots x y
  unfolding picture_of
  picture_spot x y hx hy =
      let f = spot_at spots in
      let k = 8 * y + x / 8 in
      ap (bit (7 - x % 8)) (bytes_at f 256 0 k (omega arith) ∙ ap (mask f) (zero-add k) ∙ byte f k)
      ∙ digit (eight f k) (λ j. spot_small a _) 8 (x % 8) (omega arith) ∙ ap₂ f (omega arith) (omega arith)

  pub picture_lit : sum_from (spot_at spots) 2048 0 ≡ lit_spots (picture_of spots)
  picture_lit = sym (lit_sum (picture_of spots) ∙ sum_same _ _ picture_spot 2048 0 (omega arith))

  -- ---- a drawing on it

  module _ (pattern : List ℕ) (column row : ℕ) where
    pub picture_darkened : sum_from (λ x y. min (spot_at spots x y) (shown pattern column row x y)) 2048 0 ≡ darkened pattern column row (picture_of spots)
    unfolding darkened
    picture_darkened =
        sym (sum_same _ _ (λ x y hx hy. ap (λ (s : ℕ). min s (shown pattern column row x y)) (picture_spot x y hx hy)) 2048 0 (omega arith))

    drawn_at : (x y : ℕ) → x < 64 → y < 32
        → spot (drawn pattern column row (picture_of spots)) x y ≡ differ (spot_at spots x y) (shown pattern column row x y)
    drawn_at x y hx hy =
        drawn_spot pattern column row (picture_of spots) x y hx hy ∙ ap (λ (s : ℕ). differ s (shown pattern column row x y)) (picture_spot x y hx hy)

    pub drawn_lit : sum_from (λ x y. differ (spot_at spots x y) (shown pattern column row x y)) 2048 0
        ≡ lit_spots (drawn pattern column row (picture_of spots))
    drawn_lit = sym (lit_sum (drawn pattern column row (picture_of spots)) ∙ sum_same _ _ drawn_at 2048 0 (omega arith))

    -- the picture of spots that are turned over so is the picture drawn
    pub picture_drawn : (new : List ℕ) → ((x y : ℕ) → x < 64 → y < 32 → spot_at new x y ≡ differ (spot_at spots x y) (shown pattern column row x y))
        → picture_of new ≡ drawn pattern column row (picture_of spots)
    unfolding picture_of drawn
    picture_drawn new at =
        bytes_same _ _ (λ x y hx hy. at x y hx hy ∙ ap (λ (s : ℕ). differ s (shown pattern column row x y)) (sym (picture_spot x y hx hy))) 256 0
        (omega arith)

-- a byte of eight spots
byte_small : (f : ℕ → ℕ → ℕ) → ((x y : ℕ) → f x y < 2) → (k : ℕ) → mask f k < 256
unfolding mask
byte_small f h k =
    let x = 8 * (k % 8) in
    let y = k / 8 in
    omega (arith, h x y, h (x + 1) y, h (x + 2) y, h (x + 3) y, h (x + 4) y, h (x + 5) y, h (x + 6) y, h (x + 7) y)

-- the picture of dark spots
pub picture_dark : (spots : List ℕ) → ((k : ℕ) → k < 2048 → get_or spots k 0 ≡ 0) → picture_of spots ≡ replicate 256 0
unfolding picture_of
picture_dark spots dark = bytes_same (spot_at spots) (λ x y. 0) (λ x y hx hy. dark _ (omega arith)) 256 0 (omega arith)

pub dark_spots : (n : ℕ) → n ≡ 2048 → (picture_of (replicate n 0) ≡ replicate 256 0) × AreSpots (replicate n 0)
dark_spots n e = (
  picture_dark (replicate n 0) (λ k h. get_or-replicate n k 0 0 (omega arith)),
  record { size = length-replicate n 0 ∙ e; each = below_zeros n (omega arith) },
)

pub picture_bytes : (spots : List ℕ) → AreSpots spots → Bytes 256 (picture_of spots)
unfolding picture_of
picture_bytes spots a =
    let size = bytes_length (spot_at spots) 256 0 in
    record {
      size = size;
      below = below_of (bytes_from (spot_at spots) 256 0) λ k l.
          rw (bytes_at (spot_at spots) 256 0 k (omega (arith, size)) ∙ ap (mask (spot_at spots)) (zero-add k))
          (byte_small (spot_at spots) (λ x y. spot_small a _) k);
    }

-- ---- the claims

module _ (f : ℕ → ℕ → ℕ) where
  spots_length : (n s : ℕ) → length (spots_from f n s) ≡ n
  unfolding spots_from
  spots_length zero s = refl
  spots_length (suc n) s = ap suc (spots_length n (s + 1))

  spots_at : (n s i : ℕ) → i < n → get_or (spots_from f n s) i 0 ≡ f ((s + i) % 64) ((s + i) / 64)
  unfolding spots_from
  spots_at zero s i h = absurd (not-suc-le-zero h)
  spots_at (suc n) s zero h = rw add-zero
  spots_at (suc n) s (suc i) h =
      let on : s + 1 + i ≡ s + suc i = omega arith in
      spots_at n (s + 1) i (omega arith) ∙ rw on

pub spots_size : (picture : List ℕ) → length (spots_of picture) ≡ 2048
unfolding spots_of
spots_size picture = spots_length (spot picture) 2048 0

pub spots_spot : (picture : List ℕ) (x y : ℕ) → x < 64 → y < 32 → spot_at (spots_of picture) x y ≡ spot picture x y
unfolding spots_of
spots_spot picture x y hx hy =
    spots_at (spot picture) 2048 0 (64 * y + x) (omega arith) ∙ ap₂ (spot picture) (omega arith) (omega arith)

pub spots_back : SpotsBack
unfolding spots_of
spots_back spots a =
    ext_get_or 0 (spots_of (picture_of spots)) spots (spots_size (picture_of spots) ∙ sym a.size) λ k l.
    let inside : k < 2048 = omega (arith, spots_size (picture_of spots)) in
    let at : 64 * (k / 64) + k % 64 ≡ k = omega arith in
    spots_at (spot (picture_of spots)) 2048 0 k inside
    ∙ rw (zero-add k) (picture_spot spots a (k % 64) (k / 64) (omega arith) (omega arith) ∙ rw at)

pub picture_back : PictureBack
unfolding picture_of
picture_back picture size below =
    bytes_same (spot_at (spots_of picture)) (spot picture) (spots_spot picture) 256 0 (omega arith)
    ∙ whole picture (record { size = size; below = below })

-- the spots of a picture are spots
pub spots_are : (picture : List ℕ) → AreSpots (spots_of picture)
unfolding spots_of
spots_are picture =
    let size = spots_size picture in
    record {
      size = size;
      each = below_of (spots_of picture) λ k l. rw (spots_at (spot picture) 2048 0 k (omega (arith, size))) (bit_lit _ _);
    }
