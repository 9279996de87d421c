-- Each answer by the test of the digit.
use borrow.Author.Tests.{eq-eqb, ne_eqb}
use Rattle.decode.proofs.draw_way.Goals as goal

pub returns-then-n-eq0 : goal.returns-then-n-eq0
returns-then-n-eq0 c = rw (eq-eqb c.args.n _ c.if-n-eq0.true)

pub returns-else-n-eq0 : goal.returns-else-n-eq0
returns-else-n-eq0 c = rw (ne_eqb c.args.n _ c.if-n-eq0.false)
