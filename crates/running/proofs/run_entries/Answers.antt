-- The invariant: after i entries, what is still to be done from here gives the same answer.
use mathlib.Core.Path.{◌≡◌, sym, ◌∙◌}
use Prim.Native.Nat.{◌<◌, ◌≤◌}
use native.Mathlib.Omega.{arith}
use lib.ListN.{length}
use Rattle.running.proofs.Entries.{lists_same, started, ended, ended_totals, went_on, went_on_alone, stopped, stopped_totals}
use Rattle.running.proofs.run_entries.Goals as goal

pub loop-i-init : goal.loop-i-init
loop-i-init c = started _ _ _ _ (lists_same _ _ _ c.requires.lists) c.requires.ready

pub bounds-keys-i : goal.bounds-keys-i
bounds-keys-i c = omega (arith, c.loop-i.invariant.lists.keys)

pub bounds-randoms-i : goal.bounds-randoms-i
bounds-randoms-i c = omega (arith, c.loop-i.invariant.lists.randoms)

pub entry-made-requires : goal.entry-made-requires
entry-made-requires c = c.loop-i.invariant.ready

pub returns-in_default : goal.returns-in_default
returns-in_default c =
    let inv = c.loop-i.invariant in
    let here : c.loop-i.i < length c.args.ticks.now = omega (arith, c.loop-i-test.true) in
    let entry = (rw c.in_default.is at c.entry-made.ensures).gives in
    let same = rw c.in_default.is at c.map.ensures.cases in
    let totals = stopped_totals _ _ _ _ _ _ _ _ inv here _ _ _ _ _ _ entry in
    record {
      gives_run = rw (c.stopped.ensures, same) (stopped _ _ _ _ _ _ _ _ inv here _ _ _ _ _ _ entry);
      dark_value = rw c.stopped.ensures (totals.0, inv.spots.few, totals.1, inv.bytes.few);
    }

pub loop-i-preserved : goal.loop-i-preserved
loop-i-preserved c =
    let here : c.loop-i.i < length c.args.ticks.now = omega (arith, c.loop-i-test.true) in
    let entry = rw c.in-Ok.is at c.entry-made.ensures in
    went_on _ _ _ _ _ _ _ _ c.loop-i.invariant here _ _ _ _ _ _ _ _ entry.gives entry.dark entry.dark_few entry.copied entry.copied_few

pub loop-i-preserved-then-counts-eq0 : goal.loop-i-preserved-then-counts-eq0
loop-i-preserved-then-counts-eq0 c =
    let here : c.loop-i.i < length c.args.ticks.now = omega (arith, c.loop-i-test.true) in
    let entry = rw c.in-Ok.is at c.entry-made.ensures in
    went_on_alone _ _ _ _ _ _ _ _ c.loop-i.invariant here _ _ _ _ _ _ _ _ entry.gives entry.dark entry.dark_few entry.copied entry.copied_few c.if-counts-eq0.true

pub returns : goal.returns
returns c =
    let inv = c.loop-i.invariant in
    let past : length c.args.ticks.now ≤ c.loop-i.i = omega (arith, c.loop-i-test.false) in
    let all : c.loop-i.i ≡ length c.args.ticks.now = omega (arith, inv.inside, past) in
    let totals = ended_totals _ _ _ _ _ _ _ _ inv past in
    record {
      gives_run = rw (← all) (ended _ _ _ _ _ _ _ _ inv past);
      dark_value = rw (← all) (totals.0, inv.spots.few, totals.1, inv.bytes.few);
    }
