-- The place of the lowest 1 is the first key that is down, of those from 0 on; where none below the last key is, it is at least the last one's.
use Rattle.std.proofs.Common.{◌≡◌, ℕ, ◌+◌, ◌≤◌, ◌<◌, ◌∙◌, zero, suc, sym, ap, arith}
use Prim.Native.Nat.{min}
use mathlib.Core.Logic.{◌⊎◌, inl, inr}
use lib.Count.{count_trailing_zeros, trailing_of_zero}
use Rattle.std.specs.Int.{bit_at, w16}
use Rattle.std.proofs.lemmas.Bool.{cases_eq}
use Rattle.std.proofs.lemmas.Nat.Bits.{bit_at-zero, bit_at-trailing_zeros}
use Rattle.rules.specs.Registers.{lowest_from}
use Rattle.registers.proofs.lowest.Goals as goal

-- r is the first place of a 1, of the `left` places from k on, or the one behind them
module _ (keys r : ℕ) (clear : (j : ℕ) → j < r → bit_at keys j ≡ 0) where
  here : (left k : ℕ) → k ≤ r → (k ≡ r → bit_at keys k ≡ 1) → (k < r → lowest_from left (k + 1) keys ≡ r) → lowest_from (suc left) k keys ≡ r
  here left k low set rest = go (cases_eq k r)
    where
      go : (k ≡ r) ⊎ (k ≡ r → ⊥) → lowest_from (suc left) k keys ≡ r
      go (inl same) = rw (set same) same
      go (inr other) = let past : k < r = omega arith in rw (clear k past) (rest past)

  first : (left k : ℕ) → k ≤ r → r ≤ k + left → (r < k + left → bit_at keys r ≡ 1) → lowest_from left k keys ≡ r
  first zero k low high set = omega arith
  first (suc left) k low high set =
      here left k low (λ same. ap (bit_at keys) same ∙ set (omega arith))
      (λ past. first left (k + 1) (omega arith) (omega arith) (λ h. set (omega arith)))

lowest : (keys : ℕ) → keys < 65536 → min (count_trailing_zeros 16 keys) 15 ≡ lowest_from 15 0 keys
lowest keys fits = go (cases_eq keys 0)
  where
    t : ℕ
    t = count_trailing_zeros 16 keys

    go : (keys ≡ 0) ⊎ (keys ≡ 0 → ⊥) → min t 15 ≡ lowest_from 15 0 keys
    go (inl none) =
        let all : t ≡ 16 = ap (count_trailing_zeros 16) none ∙ trailing_of_zero 16 in
        sym (first keys (min t 15) (λ j h. ap (λ (n : ℕ). bit_at n j) none ∙ bit_at-zero j) 15 0 (omega arith) (omega arith) (λ h. absurd (omega arith)))
    go (inr some) =
        let lowest = bit_at-trailing_zeros w16 keys (omega arith) fits in
        sym (first keys (min t 15) (λ j h. lowest.2 j (omega arith)) 15 0 (omega arith) (omega arith) (λ h. let e : min t 15 ≡ t = omega arith in rw e lowest.1))

pub returns : goal.returns
returns c = c.min.ensures ∙ lowest _ c.ranges.keys.fits
