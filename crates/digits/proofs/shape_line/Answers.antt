-- A line of the shape by the test of the table, which the checker computes; and none below it.
use mathlib.Core.Path.{refl}
use native.Mathlib.Omega.{arith}
use borrow.Author.Tests.{lt-ltb, le-ltb}
use Rattle.digits.specs.Table.{are_digits}
use Rattle.digits.proofs.shape_line.Goals as goal

pub digit_byte-requires : goal.digit_byte-requires
unfolding are_digits
digit_byte-requires c = (omega arith, refl)

pub returns-then-line-lt-EACH : goal.returns-then-line-lt-EACH
returns-then-line-lt-EACH c = rw (lt-ltb c.args.line 5 (omega arith), ← c.from-line.ensures, ← c.from.ensures) c.digit_byte.ensures

pub returns : goal.returns
returns c = rw (le-ltb c.args.line 5 (omega arith))
