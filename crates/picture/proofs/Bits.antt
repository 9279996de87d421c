-- Laws of bits: of a number shifted and cut, and of one turned over twice.
use mathlib.Core.Path.{◌≡◌, refl, sym, ap, ◌∙◌}
use Prim.Native.Nat.{ℕ, zero, suc, ◌+◌, ◌*◌, ◌/◌, ◌%◌, ◌^◌, ◌<◌}
use native.Mathlib.Nat.{add_comm, mul_assoc}
use native.Mathlib.Omega.{arith}
use lib.Arith.{bin_ind}
use lib.Bits.{bit_xor, differ, xor_step}
use lib.Pow.{shr-shr, shl-shr, pow-add, field, mod-mod-pow}
use Rattle.rules.specs.Number.{bit}
use Rattle.rules.proofs.Drawn.{half, odd}
use Rattle.rules.proofs.Spots.{differ_lit}

-- ---- a number shifted and cut

pub bit_down : (n k b : ℕ) → bit b (n / 2 ^ k) ≡ bit (k + b) n
bit_down n k b = rw (shr-shr n k b)

pub bit_cut : (n b d : ℕ) → bit b (n % 2 ^ (d + 1 + b)) ≡ bit b n
bit_cut n b d = rw field (mod-mod-pow (n / 2 ^ b) d 1)

-- moved up by k and down by k + t
pub shl_less : (n k t : ℕ) → n * 2 ^ k / 2 ^ (k + t) ≡ n / 2 ^ t
shl_less n k t = sym (shr-shr (n * 2 ^ k) k t) ∙ ap (λ (m : ℕ). m / 2 ^ t) (shl-shr n k)

-- moved up by k + t and down by k
pub shl_more : (n k t : ℕ) → n * 2 ^ (k + t) / 2 ^ k ≡ n * 2 ^ t
shl_more n k t = rw (add_comm k t, pow-add 2 t k, ← mul_assoc n (2 ^ t) (2 ^ k)) (shl-shr (n * 2 ^ t) k)

-- ---- turned over twice

differ_back : (a b : ℕ) → a < 2 → b < 2 → differ a (differ a b) ≡ b
differ_back zero b h k = refl
differ_back (suc zero) zero h k = refl
differ_back (suc zero) (suc zero) h k = refl
differ_back (suc zero) (suc (suc b)) h k = omega arith
differ_back (suc (suc a)) b h k = omega arith

-- turned over twice is as before
pub xor_back : (a b : ℕ) → bit_xor a (bit_xor a b) ≡ b
xor_back =
    bin_ind (λ (a : ℕ). (b : ℕ) → bit_xor a (bit_xor a b) ≡ b) (λ b. refl) λ a go b.
    let la : a % 2 < 2 = omega arith in
    let lb : b % 2 < 2 = omega arith in
    let rest = bit_xor (a / 2) (b / 2) in
    let d = differ (a % 2) (b % 2) in
    let l : d < 2 = differ_lit (a % 2) (b % 2) la lb in
    ap (bit_xor a) (xor_step a b) ∙ xor_step a (rest * 2 + d)
    ∙ rw (half rest d l, odd rest d l, go (b / 2), differ_back (a % 2) (b % 2) la lb) (omega arith)
