-- The eight bytes of a number: those that the library gives, and those of which one is put together.
use mathlib.Core.Path.{◌≡◌, refl}
use mathlib.Core.List.{[], ◌∷◌}
use Prim.Native.Nat.{ℕ, ◌+◌, ◌*◌, ◌/◌, ◌%◌, ◌<◌}
use native.Mathlib.Omega.{arith}
use Rattle.std.specs.Int.{w64, to_be_bytes}
use Rattle.rules.specs.Rows.{listed, eight_of}

pub eight_same : (n : ℕ) → to_be_bytes w64 n ≡ eight_of n
unfolding listed
eight_same n = let one : n / 1 ≡ n = omega arith in rw one refl

pub eight_bytes : (n a b c d e f g h : ℕ) → a < 256 → b < 256 → c < 256 → d < 256 → e < 256 → f < 256 → g < 256 → h < 256
    → n ≡ a * 0x100000000000000 + b * 0x1000000000000 + c * 0x10000000000 + d * 0x100000000 + e * 0x1000000 + f * 0x10000 + g * 0x100 + h
    → eight_of n ≡ a ∷ b ∷ c ∷ d ∷ e ∷ f ∷ g ∷ h ∷ []
unfolding listed
eight_bytes n a b c d e f g h a₁ b₁ c₁ d₁ e₁ f₁ g₁ h₁ is =
    let first : n / 0x100000000000000 % 256 ≡ a = omega arith in
    let second : n / 0x1000000000000 % 256 ≡ b = omega arith in
    let third : n / 0x10000000000 % 256 ≡ c = omega arith in
    let fourth : n / 0x100000000 % 256 ≡ d = omega arith in
    let fifth : n / 0x1000000 % 256 ≡ e = omega arith in
    let sixth : n / 0x10000 % 256 ≡ f = omega arith in
    let seventh : n / 0x100 % 256 ≡ g = omega arith in
    let eighth : n / 1 % 256 ≡ h = omega arith in
    λ t. first t ∷ second t ∷ third t ∷ fourth t ∷ fifth t ∷ sixth t ∷ seventh t ∷ eighth t ∷ []
