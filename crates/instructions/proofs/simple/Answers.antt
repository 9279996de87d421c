-- The effect is the right one, and it is written.
use Rattle.std.proofs.Common.{◌∙◌}
use Rattle.instructions.proofs.simple.Goals as goal

pub returns : goal.returns
returns c stack = c.write.ensures stack ∙ c.effect_of-e.ensures stack
