-- The callees' promises, put together.
use mathlib.Core.Path.{ap, ◌∙◌}
use Rattle.rules.specs.declared.Wait.TheVariants.{Idle}
use Rattle.rules.specs.State.{with_wait}
use Rattle.transfers.proofs.store.Goals as goal

pub returns : goal.returns
returns c =
    let count = c.up_to-count.ensures in record { memory_after = rw (← count) c.store.ensures; by_index = λ v stack. c.idle.ensures v stack ∙ ap (with_wait Idle) (c.point.ensures v stack) ∙ rw count }
