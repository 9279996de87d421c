-- Bytes laid from 0 on have nothing before them.
use native.Mathlib.Nat.{zero-add}
use Rattle.memory.proofs.fetch.Goals as goal

pub returns : goal.returns
returns c = rw zero-add at c.lay.ensures
