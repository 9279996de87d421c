-- The invariant: what stands so far, with what the steps from here on will add, is the whole. Each turn takes one step of it.
use mathlib.Core.Path.{sym, ◌∙◌}
use native.Mathlib.Omega.{arith}
use Rattle.rules.proofs.Given.{some_number}
use Rattle.trace.proofs.Printed.{handed, stopped, ended, more}
use Rattle.trace.proofs.steps.put_steps.Goals as goal

pub returns-in-Err : goal.returns-in-Err
returns-in-Err c =
    let told = sym c.in-Err.ensures.gives.says ∙ sym c.from.ensures in
    stopped c.loop-n.invariant (omega (arith, c.loop-n-test.true)) told (λ e. some_number _ (sym c.from.ensures ∙ e)) c.push_stop.ensures

pub loop-n-preserved : goal.loop-n-preserved
loop-n-preserved c =
    let given = c.in-Ok.ensures.gives in
    let q = c.push_step.ensures in
    more c.loop-n.invariant (omega (arith, c.loop-n-test.true)) (sym given.says) (handed given) (rw c.word_at-op.ensures at q.bytes) q.len

pub returns : goal.returns
returns c =
    let p = c.loop-n.invariant in
    ended p (omega (arith, p.last, c.loop-n-test.false)) c.push_stop-2.ensures
