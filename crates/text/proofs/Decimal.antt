-- What std writes of a byte in decimal: one digit, two or three.
use mathlib.Core.Path.{◌≡◌}
use Prim.Native.Nat.{ℕ, ◌<◌}
use native.Mathlib.Omega.{arith}
use Rattle.std.specs.Fmt.{decimal}
use Rattle.std.proofs.lemmas.Fmt.{decimal_digit, decimal_step}
use Rattle.std.proofs.lemmas.Bool.Decides.{nat_tests}
use Rattle.text.specs.Text.{decimal_of}

pub decimal_of_byte : (n : ℕ) → n < 256 → decimal n ≡ decimal_of n
decimal_of_byte n h = grind (arith, nat_tests, decimal_digit, decimal_step)
