-- Each answer by the test of the digit.
use borrow.Author.Tests.{eq-eqb, ne_eqb}
use Rattle.decode.proofs.looked_among.Goals as goal

pub returns-then-d-eq8 : goal.returns-then-d-eq8
returns-then-d-eq8 c = rw (eq-eqb _ _ c.if-d-eq8.true) c.listed_digits.ensures

pub returns-else-d-eq8 : goal.returns-else-d-eq8
returns-else-d-eq8 c = rw (ne_eqb _ _ c.if-d-eq8.false)
