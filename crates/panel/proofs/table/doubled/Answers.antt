-- The table's rule, at the byte.
use borrow.Author.Rules.{rules}
use Rattle.panel.proofs.table.doubled.Goals as goal

pub returns : goal.returns
returns c = let is = c.requires.entry c.args.b (search rules) in rw c.from.ensures is
