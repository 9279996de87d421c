-- Rows turned over by their masks are the picture drawn: byte for byte, since a pattern's mask of a row has the bits that it shows there.
use mathlib.Core.Path.{◌≡◌, sym, ◌∙◌}
use mathlib.Core.List.{List}
use Prim.Native.Nat.{ℕ, ◌+◌, ◌*◌, ◌/◌, ◌%◌, ◌≤◌, ◌<◌}
use native.Mathlib.Nat.{mod-lt, zero-lt-suc}
use native.Mathlib.Decide.{dec_lt}
use native.Mathlib.Omega.{arith}
use lib.ListN.{get_or, length}
use lib.Seq.{ext_get_or}
use lib.Bits.{bit_xor, xor_zero_r}
use Rattle.rules.specs.Picture.{shown, drawn}
use Rattle.rules.specs.Rows.{byte_in, bytes_of}
use Rattle.rules.proofs.Drawn.{mask, byte_is, drawn_length, drawn_at}
use Rattle.rules.proofs.Turning.{bytes_length, byte_at, byte_small, byte_xor}
use Rattle.picture.proofs.RowSpots.{bit_byte}
use Rattle.pattern.specs.Masks.{mask_at}
use Rattle.pattern.proofs.Shown.{mask_above, mask_beneath, shown_is}
use Rattle.drawing.specs.Turned.{Turned}

module _ (pattern : List ℕ) (column row : ℕ) (small : (k : ℕ) → get_or pattern k 0 < 256) where
  -- byte k of what the pattern shows is a byte of its row's mask
  byte_mask : (k : ℕ) → mask (shown pattern column row) k ≡ byte_in (k % 8) (mask_at pattern column row (k / 8))
  byte_mask k =
      byte_is _ k _ (mod-lt _ (zero-lt-suc 255)) λ j l.
      let x = 8 * (k % 8) + j in
      let low : x % 8 ≡ j = omega arith in
      let high : x / 8 ≡ k % 8 = omega arith in
      shown_is pattern column row small x (k / 8) (omega arith)
      ∙ sym (rw (low, high) at (bit_byte (mask_at pattern column row (k / 8)) x (omega arith)))

  -- rows turned over by their masks are the picture drawn
  drawn_rows : (r r' : List ℕ) → length r ≡ 32 → length r' ≡ 32
      → ((y : ℕ) → y < 32 → get_or r' y 0 ≡ bit_xor (get_or r y 0) (mask_at pattern column row y))
      → bytes_of r' ≡ drawn pattern column row (bytes_of r)
  drawn_rows r r' size size' over =
      let there : length (bytes_of r') ≡ 256 = omega (arith, bytes_length r') in
      ext_get_or 0 _ _ (there ∙ sym (drawn_length pattern column row (bytes_of r))) λ k l.
      rw (drawn_at pattern column row (bytes_of r) (byte_small r) k (omega arith), byte_at r' k, byte_at r k, byte_mask k, over (k / 8) (omega arith))
      (byte_xor (k % 8) (get_or r (k / 8) 0) (mask_at pattern column row (k / 8)))

  -- so are rows of which those of the pattern are turned over, where none of it is left beneath them
  pub drawn_turned : (r r' : List ℕ) (e : ℕ) → length r ≡ 32 → Turned pattern column row row e r r'
      → ((y : ℕ) → e ≤ y → y < 32 → row + length pattern ≤ y) → bytes_of r' ≡ drawn pattern column row (bytes_of r)
  drawn_turned r r' e size t none = drawn_rows r r' size (t.sized ∙ size) (λ y l. by y l (dec_lt y row) (dec_lt y e))
    where
      stands : (y : ℕ) → get_or r' y 0 ≡ get_or r y 0 → mask_at pattern column row y ≡ 0 → get_or r' y 0 ≡ bit_xor (get_or r y 0) (mask_at pattern column row y)
      stands y same dark = same ∙ sym (rw dark (xor_zero_r (get_or r y 0)))

      by : (y : ℕ) → y < 32 → Dec (y < row) → Dec (y < e) → get_or r' y 0 ≡ bit_xor (get_or r y 0) (mask_at pattern column row y)
      by y l (yes a) d = stands y (t.above y a) (mask_above pattern column row y a)
      by y l (no a) (yes b) = t.inside y (omega arith) b
      by y l (no a) (no b) = stands y (t.beneath y (omega arith)) (mask_beneath pattern column row y (none y (omega arith) l))
