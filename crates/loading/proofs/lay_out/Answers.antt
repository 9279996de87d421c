-- The digits, zeros to the end, and the program laid over them.
use native.Mathlib.Omega.{arith}
use Rattle.loading.proofs.Loaded.{laid_out}
use Rattle.loading.proofs.lay_out.Goals as goal

pub returns : goal.returns
returns c = laid_out _ c.args.memory.now _ _ _ (omega arith) c.lay_digits.ensures c.clear.ensures c.lay.ensures
