-- The variables are sixteen, and the first sixteen bytes are they.
use Rattle.std.proofs.Common.{rules}
use lib.Seq.{take_at}
use Rattle.image_writing.proofs.lay_variables.Goals as goal

pub returns : goal.returns
returns c = record { front = take_at c.args.v _ 16 (search rules) }
