-- The number is put together from its eight bytes.
use native.Mathlib.Omega.{arith}
use Rattle.memory.proofs.Numbers.{eight_bytes}
use Rattle.image_writing.proofs.four_of.Goals as goal

pub returns : goal.returns
returns c =
    eight_bytes _ _ _ _ _ _ _ _ _ (omega arith) (omega arith) (omega arith) (omega arith) (omega arith) (omega arith) (omega arith)
    (omega arith) (omega (arith, c.from.ensures, c.from-2.ensures, c.from-3.ensures, c.from-4.ensures))
