-- What the callee ensures.
use Rattle.verdict.proofs.late_clearing.Goals as goal

pub returns : goal.returns
returns c p q balance = c.late.ensures p q balance
