-- Refused by the tests 9 or 10, or the run of what passed them.
use mathlib.Core.Path.{sym, ◌∙◌}
use Rattle.rules.proofs.Given.{done_number}
use Rattle.plain.proofs.Entries.{run_refused, run_admitted, lists_passed}
use Rattle.plain.proofs.run.Goals as goal

pub returns-in-Err : goal.returns-in-Err
returns-in-Err c =
    let said = rw (c.lists_fit-lists.ensures, c.in-Err.is) at c.admitted.ensures.result_value in
    rw c.stopped.ensures (run_refused _ _ _ _ _ _ _ said)

pub run_entries-requires : goal.run_entries-requires
run_entries-requires c =
    let a = c.args in
    let says = rw c.lists_fit-lists.ensures at c.admitted.ensures.result_value in
    let passed = sym says ∙ done_number c.in_default.is in
    (rw c.in_default.is at c.admitted.ensures.playable, lists_passed a.ticks.now a.keys.now a.randoms.now a.machine.now a.memory.now a.spots.now passed)

pub returns : goal.returns
returns c =
    let a = c.args in
    let says = rw c.lists_fit-lists.ensures at c.admitted.ensures.result_value in
    let passed = sym says ∙ done_number c.in_default.is in
    rw (run_admitted a.ticks.now a.keys.now a.randoms.now a.machine.now a.memory.now a.spots.now passed) c.run_entries.ensures
