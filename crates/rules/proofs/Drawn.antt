-- Drawing, byte by byte: each byte of the picture is turned over by the byte of the pattern's spots there. So only the rows of the pattern change.
use mathlib.Core.Path.{◌≡◌, refl, sym, ap, ap₂, ◌∙◌}
use mathlib.Core.Bool.{and-false}
use mathlib.Core.List.{List}
use Prim.Native.Nat.{ℕ, zero, suc, ◌+◌, ◌-◌, ◌*◌, ◌/◌, ◌%◌, ◌^◌, ◌≤◌, ◌<◌}
use native.Mathlib.Nat.{mod-lt, not-suc-le-zero, zero-lt-suc, pow-suc, add-zero, zero-add, zero-div}
use native.Mathlib.Decide.{ℕ_discrete}
use native.Mathlib.Omega.{arith}
use lib.ListN.{get_or, length}
use lib.Dec.{lit<}
use lib.Bits.{bit_xor, differ, xor_step, xor_zero_r, xor_lt}
use lib.Pow.{shr-shr}
use borrow.Author.Tests.{lt-leb, le-ltb}
use Rattle.rules.specs.Number.{bit}
use Rattle.rules.specs.Picture.{spot, covers, shown, byte_of, bytes_from, drawn}
use Rattle.rules.specs.Step.{row_bytes}
use Rattle.rules.proofs.Good.{Bytes}
use Rattle.rules.proofs.Choices.{choice}
use Rattle.rules.proofs.Parts.{same_take, same_drop, below_of, below_get}
use Rattle.rules.proofs.Undo.{Outside}

-- ---- a number from its digits, the highest first

-- the number to base b with the first n digits of f; to base 1 it is their sum
unfoldable pub number : ℕ → ℕ → (ℕ → ℕ) → ℕ
number b zero f = 0
number b (suc n) f = number b n f * b + f n

pub same : (b : ℕ) (f g : ℕ → ℕ) (n : ℕ) → ((j : ℕ) → j < n → f j ≡ g j) → number b n f ≡ number b n g
unfolding number
same b f g zero h = refl
same b f g (suc n) h = ap₂ (λ (x y : ℕ). x * b + y) (same b f g n (λ j l. h j (omega arith))) (h n (omega arith))

module _ (a u : ℕ) (h : u < 2) where
  pub half : (a * 2 + u) / 2 ≡ a
  half = omega arith

  pub odd : (a * 2 + u) % 2 ≡ u
  odd = omega arith

xor_digits : (f g : ℕ → ℕ) → ((j : ℕ) → (f j < 2) × (g j < 2)) → (n : ℕ)
    → bit_xor (number 2 n f) (number 2 n g) ≡ number 2 n (λ j. differ (f j) (g j))
unfolding number
xor_digits f g lits zero = refl
xor_digits f g lits (suc n) =
    let (lf, lg) = lits n in
    xor_step (number 2 n f * 2 + f n) (number 2 n g * 2 + g n) ∙ simp (half, odd, xor_digits f g lits n)

pub bit_lit : (b n : ℕ) → bit b n < 2
bit_lit b n = mod-lt _ (zero-lt-suc 1)

-- bit by bit, a number to base 2 is its digits
pub digit : (f : ℕ → ℕ) → ((i : ℕ) → f i < 2) → (n i : ℕ) → i < n → bit (n - 1 - i) (number 2 n f) ≡ f i
unfolding number
digit f lits zero i h = absurd (not-suc-le-zero h)
digit f lits (suc n) i h = last (ℕ_discrete i n) (digit f lits n i)
  where
    last : Dec (i ≡ n) → (i < n → bit (n - 1 - i) (number 2 n f) ≡ f i) → bit (suc n - 1 - i) (number 2 n f * 2 + f n) ≡ f i
    last (yes e) before =
        let low : suc n - 1 - i ≡ 0 = omega arith in
        rw (low, e) (omega (arith, lits n))
    last (no ne) before =
        let up : suc n - 1 - i ≡ 1 + (n - 1 - i) = omega arith in
        rw (up, ← shr-shr (number 2 n f * 2 + f n) 1 (n - 1 - i), half (number 2 n f) (f n) (lits n)) (before (omega arith))

-- and it is made of its bits
bits : (n a : ℕ) → a < 2 ^ n → number 2 n (λ j. bit (n - 1 - j) a) ≡ a
unfolding number
bits zero a h = omega arith
bits (suc n) a h =
    let at : (j : ℕ) → j < n → bit (suc n - 1 - j) a ≡ bit (n - 1 - j) (a / 2) =
    λ j l. ap (λ (e : ℕ). bit e a) (omega arith) ∙ ap (λ (e : ℕ). e % 2) (sym (shr-shr a 1 (n - 1 - j))) in
    let last : suc n - 1 - n ≡ 0 = omega arith in
    rw (same 2 _ _ n at, bits n (a / 2) (omega (arith, pow-suc 2 n)), last) (omega arith)

-- so two bytes with equal bits are equal
pub same_byte : (a b : ℕ) → a < 256 → b < 256 → ((i : ℕ) → i < 8 → bit (7 - i) a ≡ bit (7 - i) b) → a ≡ b
same_byte a b ha hb e = sym (bits 8 a ha) ∙ same 2 _ _ 8 e ∙ bits 8 b hb

-- ---- a byte of eight spots

pub byte_number : (f : ℕ → ℕ → ℕ) (x y : ℕ) → byte_of f x y ≡ number 2 8 (λ j. f (x + j) y)
unfolding number
byte_number f x y = rw add-zero (omega arith)

-- the eight spots of byte k, and the byte
abbrev pub eight : (ℕ → ℕ → ℕ) → ℕ → ℕ → ℕ
eight f k j = f (8 * (k % 8) + j) (k / 8)

unfoldable pub mask : (ℕ → ℕ → ℕ) → ℕ → ℕ
mask f k = byte_of f (8 * (k % 8)) (k / 8)

module _ (f : ℕ → ℕ → ℕ) (k : ℕ) where
  pub byte : mask f k ≡ number 2 8 (eight f k)
  unfolding mask
  byte = byte_number f (8 * (k % 8)) (k / 8)

  -- the byte whose bits are the spots
  pub byte_is : (n : ℕ) → n < 256 → ((j : ℕ) → j < 8 → eight f k j ≡ bit (7 - j) n) → mask f k ≡ n
  byte_is n h e = byte ∙ same 2 _ _ 8 e ∙ bits 8 n h

mask_below : (f : ℕ → ℕ → ℕ) → ((x y : ℕ) → f x y < 2) → (k : ℕ) → mask f k < 256
unfolding mask
mask_below f h k =
    let x = 8 * (k % 8) in
    let y = k / 8 in
    omega (arith, h x y, h (x + 1) y, h (x + 2) y, h (x + 3) y, h (x + 4) y, h (x + 5) y, h (x + 6) y, h (x + 7) y)

module _ (P : List ℕ) (g : ℕ → ℕ → ℕ) (small : (k : ℕ) → get_or P k 0 < 256) (lit : (x y : ℕ) → g x y < 2) (k : ℕ) where
  pub old_byte : number 2 8 (eight (spot P) k) ≡ get_or P k 0
  old_byte =
      same 2 _ _ 8 (λ j l. ap₂ (λ (a b : ℕ). bit (7 - a) (get_or P b 0)) (omega arith) (omega arith)) ∙ bits 8 (get_or P k 0) (small k)

  pub lits : (j : ℕ) → (eight (spot P) k j < 2) × (eight g k j < 2)
  lits j = (bit_lit _ _, lit _ _)

  byte_xor : mask (λ x y. differ (spot P x y) (g x y)) k ≡ bit_xor (get_or P k 0) (mask g k)
  byte_xor = byte _ k ∙ sym (xor_digits _ _ lits 8) ∙ ap₂ bit_xor old_byte (sym (byte g k))

module _ (f : ℕ → ℕ → ℕ) where
  pub bytes_length : (n k : ℕ) → length (bytes_from f n k) ≡ n
  bytes_length zero k = refl
  bytes_length (suc n) k = ap suc (bytes_length n (k + 1))

  pub bytes_at : (n k i : ℕ) → i < n → get_or (bytes_from f n k) i 0 ≡ mask f (k + i)
  unfolding mask
  bytes_at zero k i h = absurd (not-suc-le-zero h)
  bytes_at (suc n) k zero h = rw add-zero
  bytes_at (suc n) k (suc i) h = bytes_at n (k + 1) i (omega arith) ∙ ap (mask f) (omega arith)

-- ---- the spots that a pattern shows

module _ (pattern : List ℕ) (column row : ℕ) where
  pub shown_lit : (x y : ℕ) → shown pattern column row x y < 2
  shown_lit x y = choice (λ (s : ℕ). s < 2) (covers pattern column row x y) (bit_lit _ _) (zero-lt-suc 1)

  -- a byte where nothing is shown; so it is above the pattern, and beneath it
  pub mask_none : (k : ℕ) → ((j : ℕ) → j < 8 → eight (shown pattern column row) k j ≡ 0) → mask (shown pattern column row) k ≡ 0
  mask_none k h = byte_is _ k 0 (lit< tt) (λ j l. h j l ∙ sym (ap (λ (n : ℕ). n % 2) (zero-div (2 ^ (7 - j)))))

  pub mask_above : (k : ℕ) → k / 8 < row → mask (shown pattern column row) k ≡ 0
  mask_above k h = mask_none k (λ j l. rw (lt-leb row (k / 8) h, and-false))

  pub mask_beneath : (k : ℕ) → row + length pattern ≤ k / 8 → mask (shown pattern column row) k ≡ 0
  mask_beneath k h = mask_none k (λ j l. rw (le-ltb (k / 8) (row + length pattern) h, and-false))

-- ---- THE PICTURE DRAWN

pub drawn_length : (pattern : List ℕ) (column row : ℕ) (P : List ℕ) → length (drawn pattern column row P) ≡ 256
unfolding drawn
drawn_length pattern column row P = bytes_length (λ x y. differ (spot P x y) (shown pattern column row x y)) 256 0

pub drawn_at : (pattern : List ℕ) (column row : ℕ) (P : List ℕ) → ((k : ℕ) → get_or P k 0 < 256) → (k : ℕ) → k < 256
    → get_or (drawn pattern column row P) k 0 ≡ bit_xor (get_or P k 0) (mask (shown pattern column row) k)
unfolding drawn
drawn_at pattern column row P small k h =
    bytes_at _ 256 0 k h ∙ ap (mask _) (zero-add k) ∙ byte_xor P (shown pattern column row) small (shown_lit pattern column row) k

module _ (pattern : List ℕ) (column row : ℕ) (P : List ℕ) (g : Bytes 256 P) where
  abbrev new : List ℕ
  new = drawn pattern column row P

  size : length new ≡ 256
  size = drawn_length pattern column row P

  at : (k : ℕ) → k < length new → get_or new k 0 ≡ bit_xor (get_or P k 0) (mask (shown pattern column row) k)
  at k l = drawn_at pattern column row P (below_get (omega arith) g.below) k (omega (arith, size))

  pub drawn_bytes : Bytes 256 new
  drawn_bytes =
      record {
        size = size;
        below = below_of new λ k l. rw (at k l) (xor_lt 8 _ _ (below_get (omega arith) g.below k) (mask_below _ (shown_lit pattern column row) k));
      }

  untouched : (k : ℕ) → k < length new → mask (shown pattern column row) k ≡ 0 → get_or new k 0 ≡ get_or P k 0
  untouched k l e = at k l ∙ rw e (xor_zero_r (get_or P k 0))

  pub drawn_outside : row < 32 → Outside (8 * row) (row_bytes (length pattern) row) P new
  drawn_outside h =
      let sizes : length new ≡ length P = size ∙ sym g.size in
      let end = 8 * row + row_bytes (length pattern) row in
      record {
        before = same_take (8 * row) new P sizes (λ k a l. untouched k l (mask_above pattern column row k (omega arith)));
        behind = same_drop end new P sizes (λ k a l. untouched k l (mask_beneath pattern column row k (omega (arith, size))));
      }
