-- Refused by the tests 9 or 10, or the step back of a world that is ready.
use Rattle.std.proofs.lemmas.Result.{err_from_is_err_and}
use Rattle.rules.specs.World.{world}
use Rattle.rules.specs.Rows.{bytes_of}
use Rattle.rules.proofs.Turning.{picture_rows}
use Rattle.restoring.proofs.Undone.{back_refused}
use Rattle.restoring.proofs.back.Goals as goal

pub returns-in_err-admitted : goal.returns-in_err-admitted
returns-in_err-admitted c =
    let a = c.args in
    let p = err_from_is_err_and c.from_residual.result c.from_residual.ensures.1 in
    rw (p.1, p.2)
    (back_refused (world a.machine.now a.trail.now a.memory.now (bytes_of a.rows.now) a.history.now) _ (rw c.in_err-admitted.was at c.admitted.ensures.result_value))

pub unwrap-memory-requires : goal.unwrap-memory-requires
unwrap-memory-requires c = c.as_mut_array.ensures.variant.1 (rw c.in_ok-admitted.was at c.admitted.ensures.ready).good.memory.size

pub unwrap-rows-requires : goal.unwrap-rows-requires
unwrap-rows-requires c =
    c.as_mut_array-2.ensures.variant.1 (picture_rows c.args.rows.now (rw c.in_ok-admitted.was at c.admitted.ensures.ready).good.picture.size)

pub undo-requires : goal.undo-requires
undo-requires c =
    let memory = (rw c.unwrap-memory.ensures at c.as_mut_array.ensures.cases).same in
    let rows = (rw c.unwrap-rows.ensures at c.as_mut_array-2.ensures.cases).same in
    rw (memory, rows) (rw c.in_ok-admitted.was at c.admitted.ensures.ready)

pub returns : goal.returns
returns c =
    let memory = (rw c.unwrap-memory.ensures at c.as_mut_array.ensures.cases).same in
    let rows = (rw c.unwrap-rows.ensures at c.as_mut_array-2.ensures.cases).same in
    rw (memory, rows) at c.undo.ensures
