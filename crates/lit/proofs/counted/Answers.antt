-- The sum is the law's.
use Rattle.lit.proofs.Laws.{becomes}
use Rattle.lit.proofs.counted.Goals as goal

pub returns : goal.returns
returns c p q b = becomes c.args.lit c.args.spots p q b c.requires.1
