-- What the judgement leaves of any other: an instruction that is not refused, a number of lit spots that stays in its range, and how many it makes
-- dark, beside buffers of the right sizes.
use Rattle.std.specs.Prelude.{◌≡◌, List, ℕ, ◌-◌, ◌≤◌, length}
use Rattle.rules.specs.declared.Machine.{Machine}
use Rattle.rules.specs.declared.Op.{Op}
use Rattle.rules.specs.State.{memory_size, spot_count}
use Rattle.rules.specs.Rows.{bytes_of}
use Rattle.decode.specs.declared.Way.TheVariants as way
use Rattle.decode.specs.Ways.{way_of}
use Rattle.rules.specs.Step.{refusal_of, lit_refusal, picture_after}
use Rattle.lit.specs.Balance.{Balance}

pub record Accepted (op : Op) (m : Machine) (mem picture : List ℕ) (dark : ℕ) : Type 0 where
  pub other : way_of op ≡ way.Other
  pub end : m.end ≤ memory_size
  pub near : m.pc ≤ memory_size - 2
  pub allowed : refusal_of op m ≡ 0
  pub passes : lit_refusal m.lit (bytes_of picture) (picture_after op m mem (bytes_of picture)) ≡ 0
  pub most : dark ≤ spot_count
  pub balance : Balance (record { dark = dark; lit = 0 }) (bytes_of picture) (picture_after op m mem (bytes_of picture))
  pub memory : length mem ≡ memory_size
  pub rows : length picture ≡ 32
