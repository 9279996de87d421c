-- Byte k is one of row k / 8.
use mathlib.Core.Path.{sym, ◌∙◌}
use Rattle.rules.proofs.Turning.{byte_at}
use Rattle.picture.proofs.byte_at.Goals as goal

pub returns : goal.returns
returns c = let a = c.args in c.byte_in.ensures ∙ sym (byte_at a.rows.now a.k)
