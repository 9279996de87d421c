-- Each arm is the promise of its call.
use Rattle.playing.proofs.make.Goals as goal

pub returns-in-Back : goal.returns-in-Back
returns-in-Back c = rw c.in-Back.is c.back.ensures

pub returns-in-Forward : goal.returns-in-Forward
returns-in-Forward c = rw c.in-Forward.is c.forward.ensures
