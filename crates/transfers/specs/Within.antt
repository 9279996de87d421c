-- The n bytes from I on are in memory.
use Rattle.std.specs.Prelude.{◌≡◌, List, ℕ, ◌+◌, ◌-◌, ◌≤◌, length}
use Rattle.rules.specs.State.{memory_size}
use Rattle.parts.specs.declared.Core.{Core}

pub record Within (n : ℕ) (c : Core) (mem : List ℕ) : Type 0 where
  pub near : c.pc ≤ memory_size - 2
  pub within : c.i + n ≤ memory_size
  pub memory : length mem ≡ memory_size
