-- The callees' promises, put together.
use mathlib.Core.Path.{ap, ◌∙◌}
use Rattle.rules.specs.declared.Wait.TheVariants.{Idle}
use Rattle.rules.specs.State.{with_wait}
use Rattle.transfers.proofs.decimal.Goals as goal

pub returns : goal.returns
returns c = record { memory_after = rw (← c.get.ensures) c.decimal.ensures; by_index = λ w stack. c.idle.ensures w stack ∙ ap (with_wait Idle) (c.onward.ensures w stack) }
