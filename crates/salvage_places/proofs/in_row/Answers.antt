-- The test is the definition's, on what the callee counts.
use Rattle.salvage_places.proofs.in_row.Goals as goal

pub returns : goal.returns
returns c = rw c.behind.ensures
