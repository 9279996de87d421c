-- The loop's invariant: every byte of an upper row that shows one of the picture's bytes so far is as it will be.
use native.Mathlib.Omega.{arith}
use Rattle.panel.proofs.Dots.{two_more}
use Rattle.panel.proofs.fill_upper.Goals as goal

pub loop-two-preserved : goal.loop-two-preserved
loop-two-preserved c =
    let l = c.loop-two in
    rw c.put_four.ensures (two_more c.args.picture.now l.panel l.two _ l.invariant (omega arith) c.two_doubled.ensures)
