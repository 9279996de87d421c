-- By the table's rule the digit's five bytes stand from its start on, and the byte is one of them.
use native.Mathlib.Omega.{arith}
use Rattle.digits.proofs.Table.{found, byte}
use Rattle.digits.proofs.digit_byte.Goals as goal

pub overflow_add-result : goal.overflow_add-result
overflow_add-result c = omega (arith, (found _ c.args.starts.now _ _ c.requires.1 c.requires.0 c.from-start.ensures).inside)

pub bounds-table-start : goal.bounds-table-start
bounds-table-start c = omega (arith, (found _ c.args.starts.now _ _ c.requires.1 c.requires.0 c.from-start.ensures).inside)

pub returns : goal.returns
returns c = byte _ _ _ (found _ c.args.starts.now _ _ c.requires.1 c.requires.0 c.from-start.ensures)
