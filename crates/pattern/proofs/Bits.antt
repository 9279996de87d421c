-- Laws of bits: of a number moved up, of a byte, of what two numbers have in common, and of what they are together.
use mathlib.Core.Path.{◌≡◌, refl, sym, ap, ◌∙◌}
use Prim.Native.Nat.{ℕ, zero, suc, ◌+◌, ◌*◌, ◌/◌, ◌%◌, ◌^◌, ◌<◌, ◌≤◌, min, max}
use native.Mathlib.Nat.{zero-div, zero-add, add_comm, mul_assoc, pow-suc}
use native.Mathlib.Omega.{arith}
use lib.Bits.{bit_and, bit_or, and_zero_r, and_step, and_shr, or_step, or_shr, or_zero_l, shifted_even}
use lib.Count.{ones, ones_step}
use lib.Pow.{shr-shr, shl-shr, pow-add}
use Rattle.rules.specs.Number.{bit}
use Rattle.rules.proofs.Drawn.{half, odd, bit_lit}
use Rattle.picture.proofs.Bits.{bit_down}
use Rattle.picture.proofs.Sums.{ones_zero}

pub bit_zero : (b : ℕ) → bit b 0 ≡ 0
bit_zero b = rw zero-div

pub bit_up : (n k b : ℕ) → bit (k + b) (n * 2 ^ k) ≡ bit b n
bit_up n k b = sym (bit_down (n * 2 ^ k) k b) ∙ rw (shl-shr n k)

pub bit_under : (n b d : ℕ) → bit b (n * 2 ^ (b + suc d)) ≡ 0
bit_under n b d =
    rw (add_comm b (suc d), pow-add 2 (suc d) b, ← mul_assoc n (2 ^ suc d) (2 ^ b), shl-shr (n * 2 ^ suc d) b) (shifted_even n d)

pub bit_over : (n b : ℕ) → n < 256 → bit (8 + b) n ≡ 0
bit_over n b h = let none : n / 2 ^ 8 ≡ 0 = omega arith in rw (← shr-shr n 8 b, none, zero-div)

pub bit_and_law : (b m n : ℕ) → bit b (bit_and m n) ≡ min (bit b m) (bit b n)
bit_and_law b m n = rw (and_shr m n b, and_step (m / 2 ^ b) (n / 2 ^ b)) (odd _ _ (omega (arith, bit_lit b m)))

pub bit_or_law : (b m n : ℕ) → bit b (bit_or m n) ≡ max (bit b m) (bit b n)
bit_or_law b m n = rw (or_shr m n b, or_step (m / 2 ^ b) (n / 2 ^ b)) (odd _ _ (omega (arith, bit_lit b m, bit_lit b n)))

-- what two numbers have in common has no more ones than one of them
pub ones_and : (k m n : ℕ) → n < 2 ^ k → ones (bit_and m n) ≤ ones n
ones_and zero m n h = let none : n ≡ 0 = omega arith in rw (none, and_zero_r) (omega arith)
ones_and (suc k) m n h =
    let r = bit_and (m / 2) (n / 2) in
    let c = min (m % 2) (n % 2) in
    let l : c < 2 = omega arith in
    let is : ones (bit_and m n) ≡ c + ones r = ap ones (and_step m n) ∙ ones_step (r * 2 + c) ∙ rw (half r c l, odd r c l) refl in
    omega (arith, is, ones_and k (m / 2) (n / 2) (omega (arith, pow-suc 2 k)), ones_step n)

-- numbers that have no bit in common have together as many ones as both
pub ones_apart : (k m n : ℕ) → m < 2 ^ k → ((b : ℕ) → b < k → min (bit b m) (bit b n) ≡ 0) → ones (bit_or m n) ≡ ones m + ones n
ones_apart zero m n h apart = let none : m ≡ 0 = omega arith in rw none (ap ones (or_zero_l n) ∙ rw ones_zero (sym (zero-add (ones n))))
ones_apart (suc k) m n h apart =
    let r = bit_or (m / 2) (n / 2) in
    let c = max (m % 2) (n % 2) in
    let l : c < 2 = omega arith in
    let halves = ones_apart k (m / 2) (n / 2) (omega (arith, pow-suc 2 k)) (λ b l. rw (bit_down m 1 b, bit_down n 1 b) (apart (1 + b) (omega arith))) in
    ap ones (or_step m n) ∙ ones_step (r * 2 + c) ∙ rw (half r c l, odd r c l) (omega (arith, halves, ones_step m, ones_step n, apart 0 (omega arith)))
