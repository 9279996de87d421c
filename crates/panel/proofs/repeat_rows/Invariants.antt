-- The loop's invariant: the first y rows stand twice, and the others as they were.
use Rattle.panel.specs.Bytes.{Doubled}
use Rattle.panel.proofs.repeat_rows.Given as goal

abbrev pub invariant-loop-y : goal.invariant-loop-y
invariant-loop-y l = Doubled l.initial.panel l.y l.panel
