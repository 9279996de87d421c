-- A pattern's mask of a row has the bits that the pattern shows there.
use mathlib.Core.Path.{◌≡◌, sym, ap, ◌∙◌}
use mathlib.Core.Bool.{and-false}
use mathlib.Core.List.{List}
use Prim.Native.Nat.{ℕ, suc, ◌+◌, ◌-◌, ◌*◌, ◌^◌, ◌≤◌, ◌<◌}
use native.Mathlib.Nat.{zero-div}
use native.Mathlib.Decide.{dec_le, dec_lt}
use native.Mathlib.Omega.{arith}
use lib.ListN.{get_or, length, get_or-eq_default}
use borrow.Author.Tests.{le-leb, lt-leb, lt-ltb, le-ltb}
use Rattle.rules.specs.Number.{bit}
use Rattle.rules.specs.Picture.{shown}
use Rattle.picture.proofs.Bits.{bit_down}
use Rattle.pattern.specs.Masks.{mask_of, mask_at}
use Rattle.pattern.proofs.Bits.{bit_zero, bit_up, bit_under, bit_over}

-- a byte of a pattern laid into a row: the bits at its left, its own, and those at its right
mask_bit : (p column x : ℕ) → bit (63 - x) (mask_of p column) ≡ bit (column + (63 - x)) (p * 2 ^ 56)
mask_bit p column x = bit_down (p * 2 ^ 56) column (63 - x)

module _ (p column x : ℕ) (h : x < 64) where
  mask_left : p < 256 → x < column → bit (63 - x) (mask_of p column) ≡ 0
  mask_left small l =
      let at : column + (63 - x) ≡ 56 + (8 + (column - x - 1)) = omega arith in
      mask_bit p column x ∙ rw at (bit_up p 56 (8 + (column - x - 1)) ∙ bit_over p _ small)

  mask_here : column ≤ x → x < column + 8 → bit (63 - x) (mask_of p column) ≡ bit (7 - (x - column)) p
  mask_here l r =
      let at : column + (63 - x) ≡ 56 + (7 - (x - column)) = omega arith in
      mask_bit p column x ∙ rw at (bit_up p 56 (7 - (x - column)))

  mask_right : column + 8 ≤ x → bit (63 - x) (mask_of p column) ≡ 0
  mask_right r =
      let at : 56 ≡ column + (63 - x) + suc (x - column - 8) = omega arith in
      mask_bit p column x ∙ ap (λ (e : ℕ). bit (column + (63 - x)) (p * 2 ^ e)) at ∙ bit_under p (column + (63 - x)) (x - column - 8)

module _ (pattern : List ℕ) (column row : ℕ) where
  -- above the pattern, in its rows, and beneath it
  pub mask_above : (y : ℕ) → y < row → mask_at pattern column row y ≡ 0
  unfolding mask_at
  mask_above y h = rw (lt-leb row y h)

  pub mask_in : (y : ℕ) → row ≤ y → mask_at pattern column row y ≡ mask_of (get_or pattern (y - row) 0) column
  unfolding mask_at
  mask_in y h = rw (le-leb row y h)

  pub mask_is : (y p : ℕ) → row ≤ y → p ≡ get_or pattern (y - row) 0 → mask_of p column ≡ mask_at pattern column row y
  mask_is y p h e = ap (λ (n : ℕ). mask_of n column) e ∙ sym (mask_in y h)

  pub mask_beneath : (y : ℕ) → row + length pattern ≤ y → mask_at pattern column row y ≡ 0
  mask_beneath y h = mask_in y (omega arith) ∙ rw (get_or-eq_default pattern 0 {n = y - row} (omega arith), zero-div)

  -- the mask has the bits that are shown
  module _ (small : (k : ℕ) → get_or pattern k 0 < 256) (x y : ℕ) (h : x < 64) where
    abbrev Same : Type 0
    Same = shown pattern column row x y ≡ bit (63 - x) (mask_at pattern column row y)

    abbrev p : ℕ
    p = get_or pattern (y - row) 0

    pub shown_is : Same
    shown_is = above (dec_le row y)
      where
        right : row ≤ y → y < row + length pattern → column ≤ x → Dec (x < column + 8) → Same
        right a b l (yes r) =
            rw (le-leb column x l, lt-ltb x (column + 8) r, le-leb row y a, lt-ltb y (row + length pattern) b, mask_in y a)
            (sym (mask_here p column x h l r))
        right a b l (no r) = rw (le-ltb x (column + 8) (omega arith), and-false, mask_in y a) (sym (mask_right p column x h (omega arith)))

        left : row ≤ y → y < row + length pattern → Dec (column ≤ x) → Same
        left a b (yes l) = right a b l (dec_lt x (column + 8))
        left a b (no l) = rw (lt-leb column x (omega arith), mask_in y a) (sym (mask_left p column x h (small (y - row)) (omega arith)))

        beneath : row ≤ y → Dec (y < row + length pattern) → Same
        beneath a (yes b) = left a b (dec_le column x)
        beneath a (no b) = rw (le-ltb y (row + length pattern) (omega arith), and-false, mask_beneath y (omega arith), bit_zero)

        above : Dec (row ≤ y) → Same
        above (yes a) = beneath a (dec_lt y (row + length pattern))
        above (no a) = rw (lt-leb row y (omega arith), and-false, mask_above y (omega arith), bit_zero)
