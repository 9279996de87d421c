-- Refused by the tests 9 or 10, or the step forward of a world that is ready.
use Rattle.std.proofs.lemmas.Result.{err_from_is_err_and}
use Rattle.rules.specs.World.{world}
use Rattle.rules.specs.Rows.{bytes_of}
use Rattle.repeating.proofs.Redone.{forward_refused}
use Rattle.repeating.proofs.forward.Goals as goal

pub returns-in_err-admitted : goal.returns-in_err-admitted
returns-in_err-admitted c =
    let a = c.args in
    let p = err_from_is_err_and c.from_residual.result c.from_residual.ensures.1 in
    rw (p.1, p.2)
    (forward_refused (world a.machine.now a.trail.now a.memory.now (bytes_of a.rows.now) a.history.now) _ (rw c.in_err-admitted.was at c.admitted.ensures.result_value))

pub redo-requires : goal.redo-requires
redo-requires c = rw c.in_ok-admitted.was at c.admitted.ensures.ready

pub returns : goal.returns
returns c = c.redo.ensures
