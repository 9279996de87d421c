-- Each answer by the test of the digit.
use borrow.Author.Tests.{eq-eqb, ne_eqb}
use Rattle.decode.proofs.looked_for.Goals as goal

pub returns-then-d-eq8 : goal.returns-then-d-eq8
returns-then-d-eq8 c = rw (eq-eqb c.args.d _ c.if-d-eq8.true)

pub returns-else-d-eq8 : goal.returns-else-d-eq8
returns-else-d-eq8 c = rw (ne_eqb c.args.d _ c.if-d-eq8.false)
