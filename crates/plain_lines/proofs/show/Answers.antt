-- What the callees ensure, put together; the number becomes what the counts before and after make of it.
use Rattle.std.proofs.Common.{ap, ◌∙◌, arith}
use Rattle.rules.specs.Picture.{lit_spots}
use Rattle.rules.proofs.Counted.{lit_between}
use Rattle.plain_lines.proofs.show.Goals as goal

pub counted-lit-requires : goal.counted-lit-requires
counted-lit-requires c =
    let before = c.lit-before.ensures in
    let after = c.lit.ensures in
    let drawn = rw (c.from-column.ensures, c.from-row.ensures, c.v.ensures, c.v-2.ensures) at c.draw.ensures.0 in
    let (low, high) = lit_between c.args.m.lit _ _ c.requires.2 in
    let now = after.0 ∙ ap lit_spots drawn in
    (before.1, after.1, omega (arith, low, before.0, now), omega (arith, high, before.0, now))
