-- The rows that are turned over so far.
use Rattle.std.specs.Prelude.{◌≡◌, List, ℕ, ◌≤◌, ◌<◌, get_or, length}
use Rattle.std.specs.Int.Bits.{bit_xor}
use Rattle.pattern.specs.Masks.{mask_at}

-- the rows from `from` up to `to` are turned over by their masks, and the others stand
pub record Turned (pattern : List ℕ) (column row from to : ℕ) (before after : List ℕ) : Type 0 where
  pub above : (y : ℕ) → y < from → get_or after y 0 ≡ get_or before y 0
  pub inside : (y : ℕ) → from ≤ y → y < to → get_or after y 0 ≡ bit_xor (get_or before y 0) (mask_at pattern column row y)
  pub beneath : (y : ℕ) → to ≤ y → get_or after y 0 ≡ get_or before y 0
  pub sized : length after ≡ length before
