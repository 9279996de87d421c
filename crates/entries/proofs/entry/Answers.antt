-- The ticks lead to a world that is ready, and the step is made there.
use mathlib.Core.Path.{refl}
use Rattle.std.specs.Prelude.{Ok, Err}
use Rattle.std.proofs.lemmas.Result.{err_from_is_err_and}
use Rattle.rules.specs.Rows.{bytes_of}
use Rattle.rules.proofs.Ready.{ticks_ready}
use Rattle.entries.proofs.Ticks.{gives_world, tickable, made_as}
use Rattle.entries.proofs.entry.Goals as goal

pub ticks_of-requires : goal.ticks_of-requires
ticks_of-requires c = tickable _ c.requires

-- the step begins at the ticks' world
pub step-requires : goal.step-requires
step-requires c =
    rw (gives_world _ _ _ _ _ _ _ (c.ticks_of.ensures c.args.memory.now (bytes_of c.args.rows.now))) (ticks_ready c.args.ticks _ c.requires)

pub returns-in_err-stepped : goal.returns-in_err-stepped
returns-in_err-stepped c =
    let p = err_from_is_err_and c.from_residual.result c.from_residual.ensures.1 in
    rw (p.1, p.2)
    (made_as (Err _) (gives_world _ _ _ _ _ _ _ (c.ticks_of.ensures c.args.memory.now (bytes_of c.args.rows.now))) refl (rw c.in_err-stepped.was at c.step.ensures))

pub returns : goal.returns
returns c =
    made_as (Ok _) (gives_world _ _ _ _ _ _ _ (c.ticks_of.ensures c.args.memory.now (bytes_of c.args.rows.now))) refl (rw c.in_ok-stepped.was at c.step.ensures)
