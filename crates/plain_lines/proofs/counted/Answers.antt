-- The counts of the two pictures are the ones that are handed in.
use Rattle.std.proofs.Common.{sym, ◌∙◌, arith}
use Rattle.rules.proofs.Counted.{after_is}
use Rattle.plain_lines.proofs.counted.Goals as goal

pub returns : goal.returns
returns c = λ p q b a. sym (after_is c.args.lit p q ∙ omega (arith, c.from.ensures))
