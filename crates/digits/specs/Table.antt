-- When a table of overlapping bytes, with a start for each digit, is right.
use Rattle.std.specs.Prelude.{Bool, true, ◌&&◌, List, [], ◌∷◌, ℕ, suc, ◌+◌, ◌*◌, leb, length}
use Rattle.rules.specs.Number.{same}
use Rattle.rules.specs.Memory.{part}
use Rattle.rules.specs.Load.{digits}

-- five bytes of the table from the start on are the digit k
abbrev pub is_digit : List ℕ → ℕ → ℕ → Bool
is_digit table k start = leb (start + 5) (length table) && same (part table start 5) (part digits (5 * k) 5)

-- so it is for the digits k, k + 1 and so on
unfoldable pub are_digits : List ℕ → ℕ → List ℕ → Bool
are_digits table k [] = true
are_digits table k (start ∷ starts) = is_digit table k start && are_digits table (suc k) starts
