-- The first bytes of what begins there, all of which the place has.
use mathlib.Core.Path.{◌∙◌}
use native.Mathlib.Omega.{arith}
use lib.ListN.{drop}
use lib.Seq.{take-take}
use Rattle.history.proofs.registers_at.Goals as goal

pub returns : goal.returns
returns c =
    let chunk = rw c.unwrap.ensures at c.first_chunk.ensures.cases in
    chunk.same ∙ take-take 16 290 (drop 2 c.args.place.now) (omega arith)
