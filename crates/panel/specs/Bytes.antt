-- The panel on the way: its upper rows, and then each of them once more.
use Rattle.std.specs.Prelude.{◌≡◌, List, ℕ, ◌+◌, ◌*◌, ◌/◌, ◌%◌, ◌≤◌, ◌<◌, get_or, set, length}
use Rattle.panel.specs.Panel.{panel_of}

-- a number of two bytes, from `at` on
abbrev pub pair : List ℕ → ℕ → ℕ → List ℕ
pair panel at n = set (set panel at (n / 256 % 256)) (at + 1) (n % 256)

-- the byte of the picture that byte j of the panel shows half of
abbrev pub source : ℕ → ℕ
source j = 8 * (j / 32) + j % 16 / 2

-- the same byte of the upper row
abbrev pub above : ℕ → ℕ
above j = 32 * (j / 32) + j % 16

-- the upper rows show the first k bytes of the picture
pub record Upper (picture panel : List ℕ) (k : ℕ) : Type 0 where
  pub size : length panel ≡ 1024
  pub some : k ≤ 256
  pub done : (j : ℕ) → j < 1024 → j / 16 % 2 ≡ 0 → source j < k → get_or panel j 0 ≡ get_or (panel_of picture) j 0

-- the upper row of pair y is repeated, and all else stands as it was
pub record Repeated (before : List ℕ) (y : ℕ) (after : List ℕ) : Type 0 where
  pub row : (j : ℕ) → j / 32 ≡ y → get_or after j 0 ≡ get_or before (above j) 0
  pub rest : (j : ℕ) → (j / 32 ≡ y → ⊥) → get_or after j 0 ≡ get_or before j 0

-- the first y pairs of rows are pairs of equal rows
pub record Doubled (before : List ℕ) (y : ℕ) (after : List ℕ) : Type 0 where
  pub size : length after ≡ 1024
  pub some : y ≤ 32
  pub done : (j : ℕ) → j / 32 < y → get_or after j 0 ≡ get_or before (above j) 0
  pub rest : (j : ℕ) → y ≤ j / 32 → get_or after j 0 ≡ get_or before j 0
