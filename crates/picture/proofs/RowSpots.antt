-- A row's spots are its bits.
use mathlib.Core.Path.{◌≡◌, ◌∙◌}
use mathlib.Core.List.{List}
use Prim.Native.Nat.{ℕ, ◌+◌, ◌-◌, ◌*◌, ◌/◌, ◌%◌, ◌^◌, ◌<◌}
use native.Mathlib.Omega.{arith}
use lib.ListN.{get_or}
use Rattle.rules.specs.Number.{bit}
use Rattle.rules.specs.Picture.{spot}
use Rattle.rules.specs.Rows.{byte_in, bytes_of}
use Rattle.rules.proofs.Turning.{byte_at}
use Rattle.picture.proofs.Bits.{bit_down, bit_cut}

pub bit_byte : (n x : ℕ) → x < 64 → bit (7 - x % 8) (byte_in (x / 8) n) ≡ bit (63 - x) n
bit_byte n x h =
    let cut : x % 8 + 1 + (7 - x % 8) ≡ 8 = omega arith in
    let at : 56 - 8 * (x / 8) + (7 - x % 8) ≡ 63 - x = omega arith in
    rw cut at (bit_cut (n / 2 ^ (56 - 8 * (x / 8))) (7 - x % 8) (x % 8)) ∙ bit_down n (56 - 8 * (x / 8)) (7 - x % 8) ∙ rw at

pub spot_is : (rows : List ℕ) (x y : ℕ) → x < 64 → spot (bytes_of rows) x y ≡ bit (63 - x) (get_or rows y 0)
spot_is rows x y h =
    let j : (8 * y + x / 8) % 8 ≡ x / 8 = omega arith in
    let z : (8 * y + x / 8) / 8 ≡ y = omega arith in
    rw (byte_at rows (8 * y + x / 8), j, z) (bit_byte (get_or rows y 0) x h)
