-- What was lit goes dark and nothing is lit, so the number becomes what is left of it.
use Rattle.std.proofs.Common.{sym, arith}
use Rattle.rules.proofs.Counted.{lit_between}
use Rattle.rules.proofs.Lit.{lit_none}
use Rattle.rules.proofs.Parts.{zeroes}
use Rattle.plain_lines.proofs.erase.Goals as goal

pub counted-requires : goal.counted-requires
counted-requires c =
    let lit = c.lit-before.ensures in
    let (low, high) = lit_between c.args.m.lit _ _ c.requires.2 in
    (lit.1, omega arith, omega (arith, lit_none, low, lit.0), omega (arith, lit_none, high, lit.0))

pub returns : goal.returns
returns c = (rw (c.counted.ensures _ (zeroes 256) c.lit-before.ensures.0 (sym lit_none)), c.erase.ensures.0, c.erase.ensures.1)
