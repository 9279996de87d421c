-- The variables are sixteen.
use mathlib.Core.Path.{◌≡◌}
use lib.ListN.{length}
use borrow.Author.Rules.{rules}
use Rattle.keeping.proofs.lay_variables.Goals as goal

pub returns : goal.returns
returns c =
    let sixteen : length c.args.v ≡ 16 = search rules in
    rw sixteen at c.lay.ensures
