-- Each way out has the test that led there.
use native.Mathlib.Omega.{arith}
use borrow.Author.Tests.{eq-eqb, ne_eqb}
use Rattle.trail.proofs.place_before.Goals as goal

pub returns-then-next-eq0 : goal.returns-then-next-eq0
returns-then-next-eq0 c = (rw (eq-eqb _ _ c.if-next-eq0.true), omega arith)

pub returns-else-next-eq0 : goal.returns-else-next-eq0
returns-else-next-eq0 c = (rw (ne_eqb _ _ c.if-next-eq0.false), omega arith)
