-- The run of one entry is its step.
use mathlib.Core.Path.{refl, sym, ◌∙◌}
use native.Mathlib.Omega.{arith}
use Rattle.std.specs.Prelude.{Ok, Err}
use Rattle.std.proofs.lemmas.Result.{err_from_is_err_and}
use Rattle.rules.specs.World.{world}
use Rattle.rules.specs.Rows.{bytes_of}
use Rattle.rules.proofs.Given.{gives_as}
use Rattle.stepping.proofs.Alone.{alone_gives, alone_dark, alone_few, refused_dark}
use Rattle.stepping.proofs.step.Goals as goal

pub returns-in_err-ran : goal.returns-in_err-ran
returns-in_err-ran c =
    let a = c.args in
    let w = world a.machine.now a.trail.now a.memory.now (bytes_of a.rows.now) a.history.now in
    let gave = rw c.in_err-ran.was at (alone_gives a.keys a.random w _ _ _ _ _ _ c.run-ran.ensures.gives_run.rest) in
    let p = err_from_is_err_and c.from_residual.result c.from_residual.ensures.1 in
    rw (p.1, p.2)
    (record { gives = gives_as (Err _) refl gave; dark_value = (sym (refused_dark a.keys a.random w _ _ _ _ _ _ gave), omega arith) })

pub returns : goal.returns
returns c =
    let a = c.args in
    let w = world a.machine.now a.trail.now a.memory.now (bytes_of a.rows.now) a.history.now in
    let ran = c.run-ran.ensures in
    let gave = rw c.in_ok-ran.was at (alone_gives a.keys a.random w _ _ _ _ _ _ ran.gives_run.rest) in
    let one = alone_few a.keys a.random w in
    record { gives = gives_as (Ok _) refl gave; dark_value = (ran.dark_value.0 ∙ alone_dark a.keys a.random w, omega (arith, ran.dark_value.1, ran.gives_run.accepted, one)) }
