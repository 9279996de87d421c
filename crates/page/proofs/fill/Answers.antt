-- The loop's invariant: the bytes up to `at` are the page's.
use native.Mathlib.Omega.{arith}
use Rattle.page.proofs.Filled.{none, more, all}
use Rattle.page.proofs.fill.Goals as goal

pub loop-at-init : goal.loop-at-init
loop-at-init c = none _ _ _ (omega arith)

pub loop-at-preserved : goal.loop-at-preserved
loop-at-preserved c =
    more _ _ _ _ _ c.loop-at.invariant (omega arith) c.page_byte.ensures

pub returns : goal.returns
returns c = all _ _ _ _ c.loop-at.invariant (omega arith)
