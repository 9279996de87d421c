-- Refused by the tests 9 or 10, or the run of a world that is ready.
use mathlib.Core.Path.{◌≡◌, sym, ◌∙◌}
use Prim.Native.Nat.{ℕ}
use native.Mathlib.Omega.{arith}
use Rattle.rules.specs.World.{World, world}
use Rattle.rules.specs.Run.{lists_fit, total}
use Rattle.rules.specs.Dark.{step_dark}
use Rattle.rules.specs.Copied.{step_copied}
use Rattle.rules.specs.Rows.{bytes_of}
use Rattle.rules.proofs.Turning.{picture_rows}
use Rattle.rules.proofs.Given.{tests, passed_lists, done_number}
use Rattle.running.proofs.Entries.{run_refused, run_refused_totals, run_admitted, run_admitted_totals}
use Rattle.running.proofs.run.Goals as goal

pub returns-in-Err : goal.returns-in-Err
returns-in-Err c =
    let a = c.args in
    let said = rw (c.lists_fit-lists.ensures, c.in-Err.is) at c.admitted.ensures.result_value in
    let w = world a.machine.now a.trail.now a.memory.now (bytes_of a.rows.now) a.history.now in
    let none : (each : World → ℕ) → total each a.ticks.now a.keys.now a.randoms.now w ≡ 0 =
    λ each. run_refused_totals each a.ticks.now a.keys.now a.randoms.now w _ said in
    record { gives_run = rw c.stopped.ensures (run_refused a.ticks.now a.keys.now a.randoms.now w _ said); dark_value = rw c.stopped.ensures (sym (none step_dark), omega arith, sym (none step_copied), omega arith) }

pub unwrap-memory-requires : goal.unwrap-memory-requires
unwrap-memory-requires c = c.as_mut_array.ensures.variant.1 (rw c.in_default.is at c.admitted.ensures.ready).good.memory.size

pub unwrap-rows-requires : goal.unwrap-rows-requires
unwrap-rows-requires c = c.as_mut_array-2.ensures.variant.1 (picture_rows c.args.rows.now (rw c.in_default.is at c.admitted.ensures.ready).good.picture.size)

pub run_ready-requires : goal.run_ready-requires
run_ready-requires c =
    let a = c.args in
    let w = world a.machine.now a.trail.now a.memory.now (bytes_of a.rows.now) a.history.now in
    let says = rw c.lists_fit-lists.ensures at c.admitted.ensures.result_value in
    let memory = (rw c.unwrap-memory.ensures at c.as_mut_array.ensures.cases).same in
    let rows = (rw c.unwrap-rows.ensures at c.as_mut_array-2.ensures.cases).same in
    record { ready = rw (memory, rows) (rw c.in_default.is at c.admitted.ensures.ready); randoms_value = passed_lists w _ _ _ says c.in_default.is }

pub returns : goal.returns
returns c =
    let a = c.args in
    let w = world a.machine.now a.trail.now a.memory.now (bytes_of a.rows.now) a.history.now in
    let says = rw c.lists_fit-lists.ensures at c.admitted.ensures.result_value in
    let passed : tests w (lists_fit a.ticks.now a.keys.now a.randoms.now) ≡ 0 = sym says ∙ done_number c.in_default.is in
    let memory = (rw c.unwrap-memory.ensures at c.as_mut_array.ensures.cases).same in
    let rows = (rw c.unwrap-rows.ensures at c.as_mut_array-2.ensures.cases).same in
    let ran = rw (memory, rows) at c.run_ready.ensures in record {
      gives_run = rw (run_admitted a.ticks.now a.keys.now a.randoms.now w passed) ran.gives_run;
      dark_value = (
        rw (run_admitted_totals step_dark a.ticks.now a.keys.now a.randoms.now w passed) ran.dark_value.0,
        ran.dark_value.1,
        rw (run_admitted_totals step_copied a.ticks.now a.keys.now a.randoms.now w passed) ran.dark_value.2,
        ran.dark_value.3,
      );
    }
