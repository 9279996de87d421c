-- Refused by the tests 9 or 10, or the tick of a state and a history that passed them.
use Rattle.std.proofs.lemmas.Result.{err_from_is_err_and}
use Rattle.rules.specs.World.{world}
use Rattle.stepping.proofs.Ticked.{tick_refused, tick_tickable, tick_done}
use Rattle.stepping.proofs.tick.Goals as goal

pub returns-in_err-tested : goal.returns-in_err-tested
returns-in_err-tested c memory picture =
    let a = c.args in
    let says = rw (c.history_fits-fits.ensures, c.soundly.ensures.value, c.in_err-tested.was) at c.tested.ensures in
    let p = err_from_is_err_and c.from_residual.result c.from_residual.ensures.1 in
    rw (p.1, p.2) (tick_refused (world a.machine.now a.trail.now memory picture a.history.now) _ says)

pub tick-requires : goal.tick-requires
tick-requires c =
    let says = rw (c.history_fits-fits.ensures, c.soundly.ensures.value) at c.tested.ensures in
    rw c.from-core.ensures (tick_tickable _ _ _ _ _ says c.in_ok-tested.was)

pub returns : goal.returns
returns c memory picture =
    let says = rw (c.history_fits-fits.ensures, c.soundly.ensures.value) at c.tested.ensures in
    rw (c.whole.ensures, tick_done _ _ _ _ _ says c.in_ok-tested.was memory picture)
    (rw c.from-core.ensures at (c.tick.ensures memory picture))
