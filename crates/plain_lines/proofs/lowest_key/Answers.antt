-- The place of the lowest 1 is the first key that is down.
use mathlib.Core.Path.{◌∙◌}
use Rattle.plain_lines.proofs.Lowest.{lowest_law}
use Rattle.plain_lines.proofs.lowest_key.Goals as goal

pub returns : goal.returns
returns c = c.min.ensures ∙ lowest_law _ c.ranges.keys.fits
