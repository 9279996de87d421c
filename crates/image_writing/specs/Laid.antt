-- An image on the way: it is laid piece by piece from its beginning, and what stands behind a piece does not count until it is laid.
use Rattle.std.specs.Prelude.{◌≡◌, List, ◌++◌, ℕ, take}

-- a piece stands from `at` to `end`, behind what stood there before
pub record Stands (piece before : List ℕ) (at : ℕ) (after : List ℕ) (end : ℕ) : Type 0 where
  pub front : take end after ≡ take at before ++ piece
