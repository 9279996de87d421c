-- The test of all of them is the definition's.
use mathlib.Core.Path.{◌∙◌}
use borrow.Author.Rules.{rules}
use lib.Dec.{leb}
use Rattle.std.proofs.lemmas.Iterator.{YieldsList-from_slice}
use Rattle.std.proofs.lemmas.Iterator.Search.{all_from_yields_List}
use Rattle.spots.proofs.Walked.{all_are}
use Rattle.spots.proofs.are_spots.Goals as goal

pub returns : goal.returns
returns c =
    all_from_yields_List (λ s. leb s 1) _ _ _ c.all.ensures.ran (YieldsList-from_slice c.args.spots.now cc) (λ x b q k. search rules) ∙ all_are c.args.spots.now
