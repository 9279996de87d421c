-- What the lines that use memory or the picture need, and the picture that DXYN leaves.
use Rattle.std.specs.Prelude.{◌≡◌, ℕ, ◌+◌, ◌≤◌, List, length}
use Rattle.rules.specs.declared.Machine.{Machine}
use Rattle.rules.specs.State.{memory_size}
use Rattle.rules.specs.Picture.{drawn, darkened}
use Rattle.rules.specs.Step.{column, row}

-- n bytes from I on are in memory, and PC is too, so that it can go on
pub record Within (n : ℕ) (m : Machine) (memory : List ℕ) : Type 0 where
  pub pc : m.pc ≤ 4094
  pub size : length memory ≡ memory_size
  pub fits : m.i + n ≤ memory_size

-- the picture after DXYN, and how many lit spots went dark
abbrev pub drawn_by : Machine → ℕ → ℕ → List ℕ → List ℕ → List ℕ
drawn_by m x y pattern picture = drawn pattern (column m x) (row m y) picture

abbrev pub darkened_by : Machine → ℕ → ℕ → List ℕ → List ℕ → ℕ
darkened_by m x y pattern picture = darkened pattern (column m x) (row m y) picture
