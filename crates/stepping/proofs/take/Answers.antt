-- Each arm is the promise of its call.
use mathlib.Core.Path.{refl}
use Rattle.std.specs.Prelude.{Ok, Err}
use Rattle.std.proofs.lemmas.Result.{err_from_is_err_and}
use Rattle.rules.specs.Rows.{bytes_of}
use Rattle.rules.proofs.Given.{gives_as}
use Rattle.stepping.proofs.take.Goals as goal

pub returns-in_err-step-in-Step : goal.returns-in_err-step-in-Step
returns-in_err-step-in-Step c =
    let p = err_from_is_err_and c.from_residual.result c.from_residual.ensures.1 in
    rw (p.1, p.2, c.in-Step.is) (gives_as (Err _) refl (rw c.in_err-step-in-Step.was at c.step.ensures.gives))

pub returns-in_ok-step-in-Step : goal.returns-in_ok-step-in-Step
returns-in_ok-step-in-Step c =
    rw c.in-Step.is (gives_as (Ok _) refl (rw c.in_ok-step-in-Step.was at c.step.ensures.gives))

pub returns-in-Tick : goal.returns-in-Tick
returns-in-Tick c =
    rw c.in-Tick.is (c.tick.ensures c.args.memory.now (bytes_of c.args.rows.now))
