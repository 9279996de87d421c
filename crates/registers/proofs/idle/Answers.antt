-- It is what the callee ensures.
use Rattle.registers.proofs.idle.Goals as goal

pub returns : goal.returns
returns c v stack = c.with_wait.ensures v stack
