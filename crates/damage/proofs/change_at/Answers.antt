-- Each answer by the marks that were tested, with the start and the count that were read.
use Rattle.damage.proofs.change_at.Goals as goal

pub returns-then-is_marked : goal.returns-then-is_marked
returns-then-is_marked c =
    let words = c in
    rw (← c.is_marked.ensures, c.if-is_marked.true, ← words.word_at-count.ensures, ← words.word_at-start.ensures)

pub returns-then-is_marked-2 : goal.returns-then-is_marked-2
returns-then-is_marked-2 c =
    let first = c in
    let words = first in
    rw (← first.is_marked.ensures, first.if-is_marked.false, ← c.is_marked-2.ensures, c.if-is_marked-2.true)
    (rw (← words.word_at-count.ensures, ← words.word_at-start.ensures))

pub returns : goal.returns
returns c =
    let first = c in
    rw (← first.is_marked.ensures, first.if-is_marked.false, ← c.is_marked-2.ensures, c.if-is_marked-2.false)
