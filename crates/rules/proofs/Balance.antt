-- A drawing's balance: what is lit after it and what it darkened are what was lit before and what it lightened. Each of the two is at
-- most eight spots for each byte of the pattern.
use mathlib.Core.Path.{◌≡◌, refl, sym, ap, ap₂, ◌∙◌}
use mathlib.Core.Bool.{◌&&◌, and-false}
use mathlib.Core.List.{List}
use Prim.Native.Nat.{ℕ, zero, suc, ◌+◌, ◌-◌, ◌*◌, ◌/◌, ◌%◌, ◌≤◌, ◌<◌, min}
use native.Mathlib.Nat.{add-zero, zero-mul, mul-suc}
use native.Mathlib.Decide.{dec_lt}
use native.Mathlib.Omega.{arith}
use borrow.Author.Tests.{lt-leb, le-ltb}
use lib.ListN.{get_or, length}
use lib.Dec.{leb, ltb}
use lib.Bits.{differ}
use Rattle.rules.specs.Number.{pick, bit}
use Rattle.rules.specs.Picture.{spot, shown, drawn, sum_from, darkened, lightened, lit_spots}
use Rattle.rules.proofs.Counted.{sum_add, lit_sum}
use Rattle.rules.proofs.Drawn.{shown_lit}
use Rattle.rules.proofs.Spots.{spot_lit, by_spots, drawn_spot}

-- a spot that is turned over where the pattern has a 1
turned : (s h : ℕ) → s < 2 → h < 2 → differ s h + min s h ≡ s + (h - s)
turned = by_spots (λ (s h : ℕ). differ s h + min s h ≡ s + (h - s)) refl refl refl refl

-- two sums of two are equal where they are at each spot
balance : (f g h k : ℕ → ℕ → ℕ) → ((x y : ℕ) → x < 64 → y < 32 → f x y + g x y ≡ h x y + k x y) → (n s : ℕ) → s + n ≤ 2048
    → sum_from f n s + sum_from g n s ≡ sum_from h n s + sum_from k n s
balance f g h k at zero s room = refl
balance f g h k at (suc n) s room =
    let x = s % 64 in
    let y = s / 64 in
    omega (arith, at x y (omega arith) (omega arith), balance f g h k at n (s + 1) (omega arith))

-- THE BALANCE OF A DRAWING
module _ (pattern : List ℕ) (column row : ℕ) (P : List ℕ) where
  pub drawn_lit : lit_spots (drawn pattern column row P) + darkened pattern column row P ≡ lit_spots P + lightened pattern column row P
  unfolding darkened lightened
  drawn_lit =
      let h = shown pattern column row in
      ap (λ (n : ℕ). n + darkened pattern column row P) (lit_sum (drawn pattern column row P))
      ∙ balance (spot (drawn pattern column row P)) (λ x y. min (spot P x y) (h x y)) (spot P) (λ x y. h x y - spot P x y)
      (λ x y hx hy. rw (drawn_spot pattern column row P x y hx hy) (turned _ _ (spot_lit P x y) (shown_lit pattern column row x y))) 2048 0
      (omega arith)
      ∙ ap (λ (n : ℕ). n + lightened pattern column row P) (sym (lit_sum P))

-- ---- the most that it darkens, and lightens

-- the sum of the `left` numbers from x on
abbrev total : (ℕ → ℕ) → ℕ → ℕ → ℕ
total a zero x = 0
total a (suc left) x = a x + total a left (x + 1)

-- of numbers that are at most c, and 0 outside the w from `low` on
module _ (a : ℕ → ℕ) (c low w : ℕ) (most : (i : ℕ) → a i ≤ c) (before : (i : ℕ) → i < low → a i ≡ 0)
    (behind : (i : ℕ) → low + w ≤ i → a i ≡ 0) where
  window : (n x : ℕ) → total a n x ≤ c * min w (low + w - x)
  window zero x = omega arith
  window (suc n) x = by (dec_lt x low) (dec_lt x (low + w)) (window n (x + 1))
    where
      by : Dec (x < low) → Dec (x < low + w) → total a n (x + 1) ≤ c * min w (low + w - (x + 1)) → total a (suc n) x ≤ c * min w (low + w - x)
      by (yes l) q rest =
          let e : min w (low + w - (x + 1)) ≡ w = omega arith in
          let f : min w (low + w - x) ≡ w = omega arith in
          rw f (omega (arith, before x l, rw e at rest))
      by (no l) (yes m) rest =
          let k = low + w - (x + 1) in
          let e : min w (low + w - (x + 1)) ≡ k = omega arith in
          let f : min w (low + w - x) ≡ suc k = omega arith in
          let rest₁ : total a n (x + 1) ≤ c * k = rw e at rest in
          rw f (omega (arith, most x, rest₁, mul-suc c k))
      by (no l) (no m) rest =
          let e : min w (low + w - (x + 1)) ≡ min w (low + w - x) = omega arith in
          omega (arith, behind x (omega arith), rw e at rest)

module _ (f : ℕ → ℕ → ℕ) where
  -- the spots of a row, and the rows
  row_total : (y n x : ℕ) → x + n ≤ 64 → sum_from f n (64 * y + x) ≡ total (λ x. f x y) n x
  row_total y zero x h = refl
  row_total y (suc n) x h =
      let at : (64 * y + x) % 64 ≡ x = omega arith in
      let in_row : (64 * y + x) / 64 ≡ y = omega arith in
      let next : 64 * y + x + 1 ≡ 64 * y + (x + 1) = omega arith in
      rw (at, in_row, next) (ap (λ (n : ℕ). f x y + n) (row_total y n (x + 1) (omega arith)))

  rows_total : (wide : ℕ) → wide ≡ 64 → (n y : ℕ) → sum_from f (n * wide) (64 * y) ≡ total (λ y. total (λ x. f x y) wide 0) n y
  rows_total wide is zero y = rw (zero-mul wide)
  rows_total wide is (suc n) y =
      let one : suc n * wide ≡ wide + n * wide = omega arith in
      let next : 64 * y + wide ≡ 64 * (y + 1) = omega arith in
      let first : sum_from f wide (64 * y) ≡ total (λ x. f x y) wide 0 =
      ap (sum_from f wide) (sym (add-zero (64 * y))) ∙ row_total y wide 0 (omega arith) in
      rw (one, sum_add f wide (n * wide) (64 * y), next) (ap₂ (λ (a b : ℕ). a + b) first (rows_total wide is n (y + 1)))

module _ (pattern : List ℕ) (column row : ℕ) where
  shown_left : (x y : ℕ) → x < column → shown pattern column row x y ≡ 0
  shown_left x y h =
      ap (λ within. pick (within && ltb x (column + 8) && leb row y && ltb y (row + length pattern)) (bit (7 - (x - column)) (get_or pattern (y - row) 0)) 0)
      (lt-leb column x h)

  shown_right : (x y : ℕ) → column + 8 ≤ x → shown pattern column row x y ≡ 0
  shown_right x y h = rw (le-ltb x (column + 8) h, and-false)

  shown_above : (x y : ℕ) → y < row → shown pattern column row x y ≡ 0
  shown_above x y h = rw (lt-leb row y h, and-false)

  shown_beneath : (x y : ℕ) → row + length pattern ≤ y → shown pattern column row x y ≡ 0
  shown_beneath x y h = rw (le-ltb y (row + length pattern) h, and-false)

  -- spots of which there are no more than the pattern shows
  module _ (f : ℕ → ℕ → ℕ) (few : (x y : ℕ) → f x y ≤ shown pattern column row x y) where
    row_few : (wide y : ℕ) → total (λ x. f x y) wide 0 ≤ 8
    row_few wide y =
        omega (
          arith,
          window (λ x. f x y) 1 column 8 (λ x. omega (arith, few x y, shown_lit pattern column row x y))
              (λ x h. omega (arith, few x y, shown_left x y h)) (λ x h. omega (arith, few x y, shown_right x y h)) wide 0,
        )

    row_none : (y : ℕ) → ((x : ℕ) → f x y ≡ 0) → (n x : ℕ) → total (λ x. f x y) n x ≡ 0
    row_none y none zero x = refl
    row_none y none (suc n) x = omega (arith, none x, row_none y none n (x + 1))

    all_few : (wide : ℕ) → wide ≡ 64 → (n : ℕ) → sum_from f (n * wide) 0 ≤ 8 * length pattern
    all_few wide is n =
        rw (rows_total f wide is n 0)
        (omega (
          arith,
          window (λ y. total (λ x. f x y) wide 0) 8 row (length pattern) (row_few wide)
              (λ y h. row_none y (λ x. omega (arith, few x y, shown_above x y h)) wide 0)
              (λ y h. row_none y (λ x. omega (arith, few x y, shown_beneath x y h)) wide 0) n 0,
        ))

  module _ (P : List ℕ) where
    pub few_darkened : darkened pattern column row P ≤ 8 * length pattern
    unfolding darkened
    few_darkened = all_few (λ x y. min (spot P x y) (shown pattern column row x y)) (λ x y. omega arith) 64 refl 32

    pub few_lightened : lightened pattern column row P ≤ 8 * length pattern
    unfolding lightened
    few_lightened = all_few (λ x y. shown pattern column row x y - spot P x y) (λ x y. omega arith) 64 refl 32
