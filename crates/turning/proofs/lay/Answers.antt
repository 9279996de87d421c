-- The bytes of all rows are laid over all of the picture.
use mathlib.Core.Path.{◌∙◌}
use Rattle.rules.proofs.Turning.{over_picture}
use Rattle.turning.proofs.lay.Goals as goal

pub returns : goal.returns
returns c = c.lay_rows.ensures ∙ over_picture c.args.rows.now c.args.picture.now c.told-rows c.told-picture
