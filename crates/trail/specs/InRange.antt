-- The numbers in range.
use Rattle.std.specs.Prelude.{ℕ, ◌≤◌, ◌<◌}
use Rattle.rules.specs.declared.Trail.{Trail}

-- next is below R and kept is at most R, which is at most 224
pub record InRange (t : Trail) (r : ℕ) : Type 0 where
  pub next : t.next < r
  pub kept : t.kept ≤ r
  pub few : r ≤ 224
