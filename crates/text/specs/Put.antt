-- What is true of a buffer after bytes were put into it.
use Rattle.std.specs.Prelude.{◌≡◌, List, ℕ, ◌+◌, ◌≤◌, length}
use Rattle.rules.specs.Memory.{over}

-- the new bytes stand from `at` on, where there was room, up to `end`, and every other byte is as it was
pub record Put (new before : List ℕ) (at : ℕ) (after : List ℕ) (end : ℕ) : Type 0 where
  pub room : at + length new ≤ length before
  pub ends : end ≡ at + length new
  pub bytes : after ≡ over before at new (length new)
