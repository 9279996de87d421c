-- Each way out has the test that led there; what clears the place is the callee.
use mathlib.Core.Path.{sym, ◌∙◌}
use Rattle.salvage_places.proofs.clear_other.Goals as goal

pub returns-then-in_row : goal.returns-then-in_row
returns-then-in_row c = rw (sym c.in_row.ensures ∙ c.if-in_row.true)

pub returns : goal.returns
returns c = c.clear_place.ensures ∙ rw (sym c.in_row.ensures ∙ c.if-in_row.false)
