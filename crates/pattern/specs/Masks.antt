-- A pattern on rows: the mask that turns a row over, and the spots that it meets and shows.
use Rattle.std.specs.Prelude.{List, ℕ, ◌-◌, ◌*◌, ◌/◌, ◌%◌, ◌^◌, get_or, leb}
use Rattle.std.specs.Int.Bits.{bit_and, bit_or}
use Rattle.std.specs.Int.Count.{ones}
use Rattle.rules.specs.Number.{pick}

-- a byte of a pattern laid into a row from that column on; what passes the last column is dropped
abbrev pub mask_of : ℕ → ℕ → ℕ
mask_of p column = p * 2 ^ 56 / 2 ^ column

-- the spots that the pattern turns over in row y
unfoldable pub mask_at : List ℕ → ℕ → ℕ → ℕ → ℕ
mask_at pattern column row y = pick (leb row y) (mask_of (get_or pattern (y - row) 0) column) 0

-- how many lit spots the pattern meets in row y, and how many spots it shows there
abbrev pub met_at : List ℕ → ℕ → ℕ → List ℕ → ℕ → ℕ
met_at pattern column row rows y = ones (bit_and (get_or rows y 0) (mask_at pattern column row y))

abbrev pub shows_at : List ℕ → ℕ → ℕ → ℕ → ℕ
shows_at pattern column row y = ones (mask_at pattern column row y)

-- a number of 64 bits moved up by eight; those that pass its end come in at the bottom
abbrev pub rolled : ℕ → ℕ
rolled n = bit_or (n * 2 ^ 8 % 2 ^ 64) (n / 2 ^ 56)
