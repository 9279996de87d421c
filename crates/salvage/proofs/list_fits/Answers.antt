-- The test of the code is the test of the definition; twice the places fit, since the places are few.
use Rattle.salvage.proofs.list_fits.Goals as goal

pub returns : goal.returns
returns c = rw c.places.ensures
