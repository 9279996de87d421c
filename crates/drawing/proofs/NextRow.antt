-- One of at most eight rows is passed. Said of plain numbers, since a proof about a function has many more at hand.
use mathlib.Core.Path.{◌≡◌}
use Prim.Native.Nat.{ℕ, ◌+◌, ◌-◌, ◌*◌, ◌≤◌, ◌<◌}
use native.Mathlib.Omega.{arith}

-- row y of those from `from` up to `to`, which lie in the pattern's rows and in the picture
pub record NextRow (row from to y : ℕ) : Type 0 where
  pub room : y < from + 8
  pub under : row ≤ y
  pub inside : y < 32
  pub among : y - from < to - from
  pub whole : from + (to - from) ≤ 32
  pub there : from + (y - from) ≡ y
  pub on : from ≤ y + 1
  pub fits : 8 * (y - from) + 8 ≤ 8 * (to - from)
  pub further : 8 * (y - from) + 8 ≡ 8 * (y + 1 - from)

pub next_row : (row from to y : ℕ) → row ≤ from → to ≤ 32 → to ≤ from + 8 → from ≤ y → y < to → NextRow row from to y
next_row row from to y h inside few l m =
    record {
      room = omega arith;
      under = omega arith;
      inside = omega arith;
      among = omega arith;
      whole = omega arith;
      there = omega arith;
      on = omega arith;
      fits = omega arith;
      further = omega arith;
    }
