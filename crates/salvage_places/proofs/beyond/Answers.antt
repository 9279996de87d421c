-- Each way out has the test that led there.
use borrow.Author.Tests.{lt-ltb, le-ltb}
use Rattle.salvage_places.proofs.beyond.Goals as goal

pub returns-then-p-next : goal.returns-then-p-next
returns-then-p-next c = rw (lt-ltb _ _ c.if-p-next.true)

pub returns-else-p-next : goal.returns-else-p-next
returns-else-p-next c = rw (le-ltb _ _ c.if-p-next.false)
