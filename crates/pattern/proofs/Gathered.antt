-- The spots of several rows, gathered in one number and counted at once: those of each row lie in the pattern's columns, and the number is
-- moved on by eight before each, so that no two rows meet.
use mathlib.Core.Path.{◌≡◌, sym, ap, ap₂, ◌∙◌}
use mathlib.Core.List.{List}
use Prim.Native.Nat.{ℕ, suc, ◌+◌, ◌-◌, ◌*◌, ◌/◌, ◌%◌, ◌^◌, ◌≤◌, ◌<◌, min}
use native.Mathlib.Nat.{add-zero, mod-lt}
use native.Mathlib.Decide.{dec_lt}
use native.Mathlib.Omega.{arith}
use lib.ListN.{get_or}
use lib.Bits.{bit_and, bit_or, or_lt, or_shifted}
use lib.Count.{ones, ones_cat, ones-le}
use lib.Dec.{leb, lit<}
use lib.Pow.{pow_pos, split, high, low}
use Rattle.rules.specs.Number.{bit}
use Rattle.rules.proofs.Choices.{choice}
use Rattle.picture.specs.Sums.{summed, between}
use Rattle.picture.proofs.Bits.{bit_down, bit_cut}
use Rattle.picture.proofs.Sums.{ones_zero, summed_few}
use Rattle.pattern.specs.Masks.{mask_of, mask_at, shows_at, rolled}
use Rattle.pattern.proofs.Bits.{bit_zero, bit_up, bit_under, bit_over, bit_and_law, bit_or_law, ones_apart}

-- ---- a number moved on by eight

module _ (n : ℕ) (h : n < 2 ^ 64) where
  rolled_is : rolled n ≡ n % 2 ^ 56 * 2 ^ 8 + n / 2 ^ 56
  rolled_is =
      let up : n * 2 ^ 8 % 2 ^ 64 ≡ n % 2 ^ 56 * 2 ^ 8 = omega arith in
      ap (λ (m : ℕ). bit_or m (n / 2 ^ 56)) up ∙ or_shifted (n % 2 ^ 56) 8 (n / 2 ^ 56) (omega arith)

  rolled_small : rolled n < 2 ^ 64
  rolled_small = or_lt 64 (n * 2 ^ 8 % 2 ^ 64) (n / 2 ^ 56) (mod-lt _ (pow_pos 64)) (omega arith)

  ones_rolled : ones (rolled n) ≡ ones n
  ones_rolled =
      let high : n / 2 ^ 56 < 2 ^ 8 = omega arith in
      ap ones rolled_is
      ∙ omega (arith, ones_cat 8 (n % 2 ^ 56) (n / 2 ^ 56) high, ones_cat 56 (n / 2 ^ 56) (n % 2 ^ 56) (mod-lt n (pow_pos 56)), ap ones (split n 56))

  -- where it lands, the lowest eight come from the top
  bit_rolled : (b : ℕ) → b < 64 → bit b (rolled n) ≡ bit ((b + 56) % 64) n
  bit_rolled b l = ap (bit b) rolled_is ∙ by (dec_lt b 8)
    where
      by : Dec (b < 8) → bit b (n % 2 ^ 56 * 2 ^ 8 + n / 2 ^ 56) ≡ bit ((b + 56) % 64) n
      by (yes s) =
          let at : 7 - b + 1 + b ≡ 8 = omega arith in
          let from : (b + 56) % 64 ≡ 56 + b = omega arith in
          sym (rw at at (bit_cut (n % 2 ^ 56 * 2 ^ 8 + n / 2 ^ 56) b (7 - b)))
          ∙ ap (bit b) (low (n % 2 ^ 56) 8 (omega arith)) ∙ bit_down n 56 b ∙ ap (λ (i : ℕ). bit i n) (sym from)
      by (no s) =
          let at : 8 + (b - 8) ≡ b = omega arith in
          let from : (b + 56) % 64 ≡ b - 8 = omega arith in
          let below : 55 - (b - 8) + 1 + (b - 8) ≡ 56 = omega arith in
          sym (rw at at (bit_down (n % 2 ^ 56 * 2 ^ 8 + n / 2 ^ 56) 8 (b - 8)))
          ∙ ap (bit (b - 8)) (high (n % 2 ^ 56) 8 (omega arith)) ∙ rw below at (bit_cut n (b - 8) (55 - (b - 8))) ∙ ap (λ (i : ℕ). bit i n) (sym from)

-- ---- the spots of a row

-- all lie in the eight columns of a pattern, of which some may be past the last one
abbrev pub Columns : ℕ → ℕ → Type 0
Columns column m = (b : ℕ) → b < 64 → (b + column) % 64 < 56 → bit b m ≡ 0

pub mask_columns : (p column : ℕ) → p < 256 → column < 64 → Columns column (mask_of p column)
mask_columns p column small h b l out = bit_down (p * 2 ^ 56) column b ∙ by (dec_lt (column + b) 56)
  where
    by : Dec (column + b < 56) → bit (column + b) (p * 2 ^ 56) ≡ 0
    by (yes s) =
        let at : 56 ≡ column + b + suc (55 - (column + b)) = omega arith in
        ap (λ (e : ℕ). bit (column + b) (p * 2 ^ e)) at ∙ bit_under p (column + b) (55 - (column + b))
    by (no s) =
        let at : column + b ≡ 56 + (8 + (column + b - 64)) = omega arith in
        rw at (bit_up p 56 (8 + (column + b - 64)) ∙ bit_over p (column + b - 64) small)

pub and_columns : (n m column : ℕ) → Columns column m → Columns column (bit_and n m)
and_columns n m column c b l out = bit_and_law b n m ∙ omega (arith, c b l out)

-- ---- the spots of several rows

-- d has as many ones as f tells of the rows from `from` on and above y; and once it is moved on, the columns of the pattern are free in it
pub record Gathered (column : ℕ) (f : ℕ → ℕ) (from y d : ℕ) : Type 0 where
  pub small : d < 2 ^ 64
  pub counted : ones d ≡ between f from y
  pub free : (b : ℕ) → b < 64 → 8 * (y - from) ≤ (b + column) % 64 → bit b (rolled d) ≡ 0

pub nothing : (column : ℕ) (f : ℕ → ℕ) (from : ℕ) → Gathered column f from from 0
unfolding summed
nothing column f from =
    let none : from - from ≡ 0 = omega arith in
    record { small = lit< tt; counted = rw none ones_zero; free = λ b l h. bit_zero b }

module _ (column : ℕ) (f : ℕ → ℕ) (from y d m : ℕ) (is : Gathered column f from y d) (on : from ≤ y) (room : y < from + 8)
    (fits : m < 2 ^ 64) (columns : Columns column m) where
  moved : rolled d < 2 ^ 64
  moved = rolled_small d is.small

  together : bit_or (rolled d) m < 2 ^ 64
  together = or_lt 64 (rolled d) m moved fits

  apart : (b : ℕ) → b < 64 → min (bit b (rolled d)) (bit b m) ≡ 0
  apart b l = by (dec_lt ((b + column) % 64) 56)
    where
      by : Dec ((b + column) % 64 < 56) → min (bit b (rolled d)) (bit b m) ≡ 0
      by (yes s) = omega (arith, columns b l s)
      by (no s) = omega (arith, is.free b l (omega arith))

  still_free : (b : ℕ) → b < 64 → 8 * (y + 1 - from) ≤ (b + column) % 64 → bit b (rolled (bit_or (rolled d) m)) ≡ 0
  still_free b l h =
      let e = (b + 56) % 64 in
      let inside : e < 64 = omega arith in
      let back : (e + column) % 64 + 8 ≡ (b + column) % 64 = omega arith in
      bit_rolled (bit_or (rolled d) m) together b l ∙ bit_or_law e (rolled d) m
      ∙ omega (arith, is.free e inside (omega arith), columns e inside (omega arith))

  pub one_more : ones m ≡ f y → Gathered column f from (y + 1) (bit_or (rolled d) m)
  unfolding summed
  one_more e =
      let last : from + (y - from) ≡ y = omega arith in
      let wider : y + 1 - from ≡ suc (y - from) = omega arith in
      record {
        small = together;
        counted =
            ones_apart 64 (rolled d) m moved apart
            ∙ rw wider (ap₂ ◌+◌ (ones_rolled d is.small ∙ is.counted) (e ∙ ap f (sym last)));
        free = still_free;
      }

-- ---- eight spots a row at most

few : (p column : ℕ) → p < 256 → ones (mask_of p column) ≤ 8
few p column small =
    let n = p * 2 ^ 56 in
    let parts = ones_cat column (n / 2 ^ column) (n % 2 ^ column) (mod-lt n (pow_pos column)) in
    let whole = ap ones (split n column) in
    let byte = rw add-zero at (ones_cat 56 p 0 (pow_pos 56)) in
    omega (arith, parts, whole, byte, ones_zero, ones-le 8 p small)

pub shown_few : (pattern : List ℕ) (column row : ℕ) → ((k : ℕ) → get_or pattern k 0 < 256) → (from to : ℕ)
    → between (shows_at pattern column row) from to ≤ 8 * (to - from)
unfolding mask_at
shown_few pattern column row small from to = omega (arith, summed_few (λ k. shows_at pattern column row (from + k)) 8 (λ k. each (from + k)) (to - from))
  where
    each : (y : ℕ) → shows_at pattern column row y ≤ 8
    each y = choice (λ (m : ℕ). ones m ≤ 8) (leb row y) (few (get_or pattern (y - row) 0) column (small (y - row))) (omega (arith, ones_zero))
