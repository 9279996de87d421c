-- What a tick asks for: a trail in range, beside a history that has room.
use Rattle.std.specs.Prelude.{List, ℕ, ◌≤◌, length}
use Rattle.rules.specs.declared.Machine.{Machine}
use Rattle.rules.specs.declared.Trail.{Trail}
use Rattle.rules.specs.State.{stack_size}
use Rattle.rules.specs.World.{places}
use Rattle.trail.specs.InRange.{InRange}

-- a tick writes only the history
pub record Tickable (m : Machine) (t : Trail) (his : List ℕ) : Type 0 where
  pub shallow : m.depth ≤ stack_size
  pub most : length his ≤ 65536
  pub range : InRange t (places his)
