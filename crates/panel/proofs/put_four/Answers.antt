-- Four bytes laid are two pairs.
use mathlib.Core.Path.{◌∙◌}
use Rattle.rules.proofs.Laid.{lent}
use Rattle.panel.proofs.Dots.{four_laid}
use Rattle.panel.proofs.put_four.Goals as goal

pub returns : goal.returns
returns c =
    let a = c.args in
    lent _ _ _ _ _ (c.copy_from_slice.ensures.after ∙ c.to_be_bytes.ensures) ∙ four_laid a.panel.now a.at a.n c.requires
