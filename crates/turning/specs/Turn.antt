-- The calls that turn a picture into its other form. What the turning is stands in the crate rules, Rows.antt.
use Rattle.std.specs.Prelude.{Bool, ◌&&◌, List, ℕ, length, eqb}
use Rattle.rules.specs.declared.Refusal.TheVariants.{BufferLength}
use Rattle.rules.specs.Number.{pick, unless}
use Rattle.rules.specs.Refusal.{number_of}
use Rattle.rules.specs.State.{picture_size}
use Rattle.rules.specs.Rows.{bytes_of, rows_of}

-- 256 bytes and 32 rows
abbrev pub fits : List ℕ → List ℕ → Bool
fits picture rows = eqb (length picture) picture_size && eqb (length rows) 32

-- 9 unless both lengths are right
abbrev pub turn_refusal : List ℕ → List ℕ → ℕ
turn_refusal picture rows = unless (fits picture rows) (number_of BufferLength) 0

-- a refused call leaves what it was to fill as it came
abbrev pub rows_after : List ℕ → List ℕ → List ℕ
rows_after picture rows = pick (fits picture rows) (rows_of picture) rows

abbrev pub bytes_after : List ℕ → List ℕ → List ℕ
bytes_after rows picture = pick (fits picture rows) (bytes_of rows) picture
