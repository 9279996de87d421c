-- The invariant: after i entries, what is still to be done from here gives the same answer.
use mathlib.Core.Path.{◌≡◌}
use native.Mathlib.Omega.{arith}
use lib.ListN.{length}
use Rattle.plain.proofs.Entries.{lists_same, started, ended, went_on, stopped}
use Rattle.plain.proofs.run_entries.Goals as goal

pub loop-i-init : goal.loop-i-init
loop-i-init c = started _ _ _ _ _ _ (lists_same _ _ _ c.requires.1) c.requires.0

pub bounds-keys-i : goal.bounds-keys-i
bounds-keys-i c = omega (arith, c.loop-i.invariant.lists.keys)

pub bounds-randoms-i : goal.bounds-randoms-i
bounds-randoms-i c = omega (arith, c.loop-i.invariant.lists.randoms)

pub entry-outcome-requires : goal.entry-outcome-requires
entry-outcome-requires c = c.loop-i.invariant.play

pub returns-in-Err : goal.returns-in-Err
returns-in-Err c =
    rw c.stopped.ensures (stopped _ _ _ _ _ _ _ _ c.loop-i.invariant c.loop-i-test.true _ _ _ _ _ c.entry-outcome.ensures c.in-Err.is)

pub loop-i-preserved : goal.loop-i-preserved
loop-i-preserved c = went_on _ _ _ _ _ _ _ _ c.loop-i.invariant c.loop-i-test.true _ _ _ _ _ c.entry-outcome.ensures c.in_default.is

pub returns : goal.returns
returns c =
    let inv = c.loop-i.invariant in
    let all : c.loop-i.i ≡ length c.args.ticks.now = omega (arith, inv.inside) in
    rw (← all) (ended _ _ _ _ _ _ _ _ inv c.loop-i-test.false)
