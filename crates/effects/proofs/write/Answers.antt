-- Each arm by the effect that was matched, and what the callee ensures.
use Rattle.effects.proofs.write.Goals as goal

pub returns-in-Next : goal.returns-in-Next
returns-in-Next c stack = rw c.in-Next.is (c.jump.ensures _ stack)

pub returns-in-Result : goal.returns-in-Result
returns-in-Result c stack = rw c.in-Result.is (c.put.ensures stack)

pub returns-in-Flagged : goal.returns-in-Flagged
returns-in-Flagged c stack = rw c.in-Flagged.is (c.put_both.ensures stack)

pub returns-in-Index : goal.returns-in-Index
returns-in-Index c stack = rw c.in-Index.is (c.point.ensures _ stack)

pub returns-in-Clock : goal.returns-in-Clock
returns-in-Clock c stack = rw c.in-Clock.is (c.set_timers.ensures _ stack)
