-- Each answer by the test of the digit.
use borrow.Author.Tests.{eq-eqb, ne_eqb}
use Rattle.decode.proofs.skip_way.Goals as goal

pub returns-then-n-eq0 : goal.returns-then-n-eq0
returns-then-n-eq0 c s = rw (eq-eqb c.args.n _ c.if-n-eq0.true)

pub returns-else-n-eq0 : goal.returns-else-n-eq0
returns-else-n-eq0 c s = rw (ne_eqb c.args.n _ c.if-n-eq0.false)
