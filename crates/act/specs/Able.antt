-- What the judgement leaves of a quiet instruction: it is not refused, beside a memory of the right size.
use Rattle.std.specs.Prelude.{◌≡◌, List, ℕ, ◌-◌, ◌≤◌, length}
use Rattle.rules.specs.declared.Machine.{Machine}
use Rattle.rules.specs.declared.Op.{Op}
use Rattle.rules.specs.State.{memory_size, stack_size}
use Rattle.rules.specs.Step.{refusal_of}
use Rattle.decode.specs.declared.Way.TheVariants as way
use Rattle.decode.specs.Ways.{way_of}

pub record Able (op : Op) (m : Machine) (mem : List ℕ) : Type 0 where
  pub quiet : way_of op ≡ way.Quiet
  pub end : m.end ≤ memory_size
  pub near : m.pc ≤ memory_size - 2
  pub shallow : m.depth ≤ stack_size
  pub allowed : refusal_of op m ≡ 0
  pub memory : length mem ≡ memory_size
