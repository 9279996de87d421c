-- How far the rows of a pattern reach in the picture, and where a place has room for them. Said of plain numbers, since a proof about a function
-- has many more at hand.
use mathlib.Core.Path.{◌≡◌}
use Prim.Native.Nat.{ℕ, ◌+◌, ◌-◌, ◌*◌, ◌≤◌, ◌<◌, min}
use mathlib.Core.List.{List}
use native.Mathlib.Omega.{arith}
use lib.ListN.{length}
use Rattle.rules.specs.Picture.{darkened, lightened}
use Rattle.picture.specs.declared.Spots.{Spots}
use Rattle.drawing.specs.Turns.{Turns}

-- n bytes of a pattern reach from that row up to `end`
pub record Reach (row n end : ℕ) : Type 0 where
  pub on : row ≤ end
  pub inside : end ≤ 32
  pub shown : end ≤ row + n
  pub most : end ≤ row + 16
  pub many : 8 * (end - row) ≡ 8 * min n (32 - row)
  pub beneath : (y : ℕ) → end ≤ y → y < 32 → row + n ≤ y

pub reach : (row n s : ℕ) → row < 32 → n ≤ 16 → s ≡ min n (32 - row) → Reach row n (row + s)
reach row n s h few e =
    record {
      on = omega arith;
      inside = omega arith;
      shown = omega arith;
      most = omega arith;
      many = omega arith;
      beneath = λ y l k. omega arith;
    }

module _ {row n end : ℕ} (h : Reach row n end) where
  -- a place with room for sixteen rows has room for all of them
  pub room : (at size : ℕ) → at + 128 ≤ size → at + 8 * (end - row) ≤ size
  room at size r = omega (arith, h.most)

-- spots went dark and others were lit, all of them together at most eight in a row
pub few_turned : (pattern : List ℕ) (column row end : ℕ) (P : List ℕ) (s : Spots) → Reach row (length pattern) end
    → s.dark ≡ darkened pattern column row P → s.dark + s.lit ≡ lightened pattern column row P + darkened pattern column row P
    → s.dark + s.lit ≤ 8 * (end - row) → Turns pattern column row P s
few_turned pattern column row end P s h is e few = record { dark = is; lit = omega arith; few = omega (arith, h.on, h.shown) }
