-- The invariant: y rows are laid.
use mathlib.Core.Path.{sym, ◌∙◌}
use native.Mathlib.Nat.{zero-add}
use native.Mathlib.Omega.{arith}
use Rattle.rules.proofs.Laid.{none, more, full}
use Rattle.rules.proofs.Turning.{rows_length, row_is}
use Rattle.turning.proofs.fill.Goals as goal

pub loop-y-init : goal.loop-y-init
loop-y-init c = none _ _ _ _ (rows_length _ 32 c.told-picture) (omega arith)

pub loop-y-preserved : goal.loop-y-preserved
loop-y-preserved c =
    let l = c.loop-y in
    rw zero-add at (more _ 0 _ 32 l.rows l.y _ l.invariant (omega arith) (row_is c.args.picture.now 32 c.told-picture l.y (omega arith) ∙ sym c.row_at.ensures))

pub returns : goal.returns
returns c = full _ 0 _ 32 _ _ c.loop-y.invariant (omega arith) (omega arith)
