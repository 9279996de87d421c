-- The invariant: y rows are laid.
use Rattle.rules.proofs.Laid.{Laid}
use Rattle.rules.specs.Rows.{rows_of}
use Rattle.turning.proofs.fill.Given as goal

abbrev pub invariant-loop-y : goal.invariant-loop-y
invariant-loop-y l = Laid l.initial.rows 0 (rows_of l.picture) 32 l.rows l.y
