-- Its callees' answers, joined as the definition joins them.
use Rattle.damage.proofs.is_known.Goals as goal

pub returns : goal.returns
returns c =
    let words = c in
    rw (c.is_marked.ensures, c.is_marked-2.ensures, c.is_marked-3.ensures, words.word_at-start.ensures, words.word_at-count.ensures)
