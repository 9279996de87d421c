-- Each answer by the test of the last byte.
use borrow.Author.Tests.{eq-eqb, ne_eqb}
use Rattle.rules.specs.Record.{byte_at}
use Rattle.history.proofs.action_at.Goals as goal

pub returns-then-place-eq1 : goal.returns-then-place-eq1
returns-then-place-eq1 c =
    let read = c in
    rw (eq-eqb (byte_at read.args.place.now 291) 1 c.if-place-eq1.true, read.word_at-keys.ensures)

pub returns-else-place-eq1 : goal.returns-else-place-eq1
returns-else-place-eq1 c = rw (ne_eqb (byte_at c.args.place.now 291) 1 c.if-place-eq1.false)
