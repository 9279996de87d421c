-- Each way out has the test that led there.
use borrow.Author.Tests.{eq-eqb, ne_eqb}
use Rattle.trail.proofs.next_place.Goals as goal

pub returns-then-next-places : goal.returns-then-next-places
returns-then-next-places c = rw (eq-eqb _ _ c.if-next-places.true)

pub returns-else-next-places : goal.returns-else-next-places
returns-else-next-places c = rw (ne_eqb _ _ c.if-next-places.false)
