-- The loop's invariant: the first y rows stand twice, and the others as they were.
use native.Mathlib.Omega.{arith}
use Rattle.panel.proofs.Dots.{rows_none, rows_more, rows_all}
use Rattle.panel.proofs.repeat_rows.Goals as goal

pub loop-y-init : goal.loop-y-init
loop-y-init c = rows_none _ (omega arith)

pub loop-y-preserved : goal.loop-y-preserved
loop-y-preserved c =
    rows_more _ c.loop-y.panel _ _ c.loop-y.invariant c.repeat_row.ensures (omega (arith, c.loop-y.invariant.size)) (omega arith)

pub returns : goal.returns
returns c = rows_all _ _ _ c.loop-y.invariant (omega arith)
