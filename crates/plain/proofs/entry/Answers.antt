-- The step of the board that the ticks lead to; where it is refused, the machine is the one that the ticks left.
use mathlib.Core.Path.{refl}
use Rattle.std.specs.Prelude.{Ok, Err}
use Rattle.std.proofs.lemmas.Result.{err_from_is_err_and}
use Rattle.plain.proofs.Entries.{leaves_as, ticked_playable}
use Rattle.plain.proofs.entry.Goals as goal

pub step-requires : goal.step-requires
step-requires c =
    ticked_playable c.args.ticks _ _ _ _ c.requires (c.ticks_of.ensures _ _)

pub returns-in_err-machine : goal.returns-in_err-machine
returns-in_err-machine c =
    let p = err_from_is_err_and c.from_residual.result c.from_residual.ensures.1 in
    rw (p.1, p.2, ← c.ticks_of.ensures c.args.memory.now c.args.spots.now)
    (leaves_as (Err _) refl (rw c.in_err-machine.was at c.step.ensures))

pub returns : goal.returns
returns c =
    rw (← c.ticks_of.ensures c.args.memory.now c.args.spots.now)
    (leaves_as (Ok _) refl (rw c.in_ok-machine.was at c.step.ensures))
