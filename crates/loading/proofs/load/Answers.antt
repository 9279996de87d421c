-- The state and the numbers are fresh, whether it was refused or not.
use Rattle.loading.proofs.load.Goals as goal

pub returns : goal.returns
returns c = rw (c.fresh.ensures, c.end_of.ensures) (c.lay_all-outcome.ensures c.args.edition)
