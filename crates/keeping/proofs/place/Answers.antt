-- The first bytes of what begins there, all of which the history has.
use mathlib.Core.Path.{◌∙◌}
use native.Mathlib.Omega.{arith}
use lib.Seq.{take-take}
use Rattle.keeping.proofs.place.Goals as goal

pub returns : goal.returns
returns c =
    let chunk = rw c.unwrap.ensures at c.first_chunk.ensures.cases in
    chunk.same ∙ take-take 292 _ _ (omega arith)
