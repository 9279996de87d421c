-- A picture is its spots: drawn, each of them is turned over or left; two pictures with the same spots are the same; and a sum over the
-- spots is above 0 exactly if it is at some spot.
use mathlib.Core.Path.{◌≡◌, refl, sym, ap, ap₂, ◌∙◌}
use mathlib.Core.Logic.{◌↔◌}
use mathlib.Core.List.{List, ◌∷◌}
use Prim.Native.Nat.{ℕ, zero, suc, ◌+◌, ◌-◌, ◌*◌, ◌/◌, ◌%◌, ◌≤◌, ◌<◌}
use native.Mathlib.Nat.{zero-add}
use native.Mathlib.Decide.{dec_lt}
use native.Mathlib.Omega.{arith}
use lib.Seq.{ext_get_or}
use lib.Bits.{differ}
use Rattle.rules.specs.Number.{bit}
use Rattle.rules.specs.Picture.{spot, shown, bytes_from, drawn, sum_from}
use Rattle.rules.proofs.Good.{Bytes}
use Rattle.rules.proofs.Parts.{below_get}
use Rattle.rules.proofs.Drawn.{same, bit_lit, digit, eight, mask, byte, bytes_at, bytes_length, old_byte, shown_lit}

-- ---- one spot

pub spot_lit : (P : List ℕ) (x y : ℕ) → spot P x y < 2
spot_lit P x y = bit_lit _ _

-- what holds of dark and of lit holds of a spot
pub by_spot : (Q : ℕ → Type 0) → Q 0 → Q 1 → (s : ℕ) → s < 2 → Q s
by_spot Q dark lit zero h = dark
by_spot Q dark lit (suc zero) h = lit
by_spot Q dark lit (suc (suc s)) h = absurd (omega arith)

pub by_spots : (Q : ℕ → ℕ → Type 0) → Q 0 0 → Q 0 1 → Q 1 0 → Q 1 1 → (s h : ℕ) → s < 2 → h < 2 → Q s h
by_spots Q a b c d s h hs hh = by_spot (λ (s : ℕ). Q s h) (by_spot (Q 0) a b h hh) (by_spot (Q 1) c d h hh) s hs

pub differ_lit : (s h : ℕ) → s < 2 → h < 2 → differ s h < 2
differ_lit = by_spots (λ (s h : ℕ). differ s h < 2) (omega arith) (omega arith) (omega arith) (omega arith)

-- ---- the spots of a picture drawn

pub drawn_spot : (pattern : List ℕ) (column row : ℕ) (P : List ℕ) (x y : ℕ) → x < 64 → y < 32
    → spot (drawn pattern column row P) x y ≡ differ (spot P x y) (shown pattern column row x y)
unfolding drawn
drawn_spot pattern column row P x y hx hy =
    let f : ℕ → ℕ → ℕ = λ x y. differ (spot P x y) (shown pattern column row x y) in
    let k = 8 * y + x / 8 in
    let lits : (j : ℕ) → eight f k j < 2 = λ j. differ_lit _ _ (spot_lit P _ _) (shown_lit pattern column row _ _) in
    ap (bit (7 - x % 8)) (bytes_at f 256 0 k (omega arith) ∙ ap (mask f) (zero-add k) ∙ byte f k)
    ∙ digit (eight f k) lits 8 (x % 8) (omega arith) ∙ ap₂ f (omega arith) (omega arith)

-- ---- pictures with the same spots

module _ (f g : ℕ → ℕ → ℕ) (same_at : (x y : ℕ) → x < 64 → y < 32 → f x y ≡ g x y) where
  pub bytes_same : (n k : ℕ) → k + n ≤ 256 → bytes_from f n k ≡ bytes_from g n k
  unfolding mask
  bytes_same zero k room = refl
  bytes_same (suc n) k room =
      let here : mask f k ≡ mask g k =
      byte f k ∙ same 2 _ _ 8 (λ j l. same_at (8 * (k % 8) + j) (k / 8) (omega arith) (omega arith)) ∙ sym (byte g k) in
      ap₂ ◌∷◌ here (bytes_same n (k + 1) (omega arith))

  pub sum_same : (n s : ℕ) → s + n ≤ 2048 → sum_from f n s ≡ sum_from g n s
  sum_same zero s room = refl
  sum_same (suc n) s room =
      ap₂ (λ (a b : ℕ). a + b) (same_at (s % 64) (s / 64) (omega arith) (omega arith)) (sum_same n (s + 1) (omega arith))

-- made of its own spots, a picture is itself
pub whole : (P : List ℕ) → Bytes 256 P → bytes_from (spot P) 256 0 ≡ P
whole P g =
    ext_get_or 0 (bytes_from (spot P) 256 0) P (bytes_length (spot P) 256 0 ∙ sym g.size) λ k l.
    bytes_at (spot P) 256 0 k (omega (arith, bytes_length (spot P) 256 0)) ∙ ap (mask (spot P)) (zero-add k) ∙ byte (spot P) k
    ∙ old_byte P (spot P) (below_get (omega arith) g.below) (spot_lit P) k

-- ---- a sum over spots, and one of them

-- a spot where f is above 0
pub record Some (f : ℕ → ℕ → ℕ) : Type 0 where
  pub x : ℕ
  pub y : ℕ
  pub across : x < 64
  pub down : y < 32
  pub above : 0 < f x y

module _ (f : ℕ → ℕ → ℕ) where
  sum_some : (n s : ℕ) → s + n ≤ 2048 → 0 < sum_from f n s → Some f
  sum_some zero s room h = absurd (omega arith)
  sum_some (suc n) s room h = go (dec_lt 0 (f (s % 64) (s / 64))) (sum_some n (s + 1) (omega arith))
    where
      go : Dec (0 < f (s % 64) (s / 64)) → (0 < sum_from f n (s + 1) → Some f) → Some f
      go (yes a) later = record { x = s % 64; y = s / 64; across = omega arith; down = omega arith; above = a }
      go (no a) later = later (omega arith)

  some_sum : (o : Some f) (n s : ℕ) → s ≤ 64 * o.y + o.x → 64 * o.y + o.x < s + n → 0 < sum_from f n s
  some_sum o zero s low high = absurd (omega arith)
  some_sum o (suc n) s low high = go (dec_lt s (64 * o.y + o.x)) (λ l. some_sum o n (s + 1) (omega arith) (omega arith))
    where
      go : Dec (s < 64 * o.y + o.x) → (s < 64 * o.y + o.x → 0 < sum_from f n (s + 1)) → 0 < f (s % 64) (s / 64) + sum_from f n (s + 1)
      go (yes l) later = omega (arith, later l)
      go (no l) later =
          let column : s % 64 ≡ o.x = omega (arith, o.across) in
          let row : s / 64 ≡ o.y = omega (arith, o.across) in
          rw (column, row) (omega (arith, o.above))

  -- over all spots; how many they are is a variable, since a sum of 2,048 would be written out
  pub sum_is_some : (n : ℕ) → n ≡ 2048 → (0 < sum_from f n 0) ↔ Some f
  sum_is_some n is = (sum_some n 0 (omega arith), λ o. some_sum o n 0 (omega arith) (omega (arith, o.across, o.down)))
