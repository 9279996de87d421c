-- Each answer by the tests that led there, on what the callees say.
use borrow.Author.Tests.{lt-ltb, le-ltb}
use Rattle.salvage_places.proofs.standing_of.Goals as goal

pub returns-then-in_row : goal.returns-then-in_row
returns-then-in_row c = rw (← c.in_row.ensures, c.if-in_row.true)

pub returns-then-beyond-t : goal.returns-then-beyond-t
returns-then-beyond-t c =
    let first = c in
    rw (← first.in_row.ensures, first.if-in_row.false, ← c.beyond.ensures, lt-ltb _ _ c.if-beyond-t.true)

pub returns : goal.returns
returns c =
    let first = c in
    rw (← first.in_row.ensures, first.if-in_row.false, ← c.beyond.ensures, le-ltb _ _ c.if-beyond-t.false)
