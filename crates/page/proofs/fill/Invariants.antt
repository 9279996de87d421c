-- The loop's invariant: the bytes up to `at` are the page's.
use Rattle.page.proofs.Filled.{Filled}
use Rattle.page.proofs.fill.Given as goal

abbrev pub invariant-loop-at : goal.invariant-loop-at
invariant-loop-at l = Filled l.v l.pc l.page l.at
