-- The invariant: what stands so far, with what the steps from here on will add, is the whole. Each turn takes one step of it.
use mathlib.Core.List.{◌++◌}
use Rattle.rules.specs.Rows.{bytes_of}
use Rattle.rules.specs.World.{world}
use Rattle.trace.specs.Trace.{steps_from}
use Rattle.trace.proofs.Printed.{Printed}
use Rattle.trace.proofs.steps.put_steps.Given as goal

abbrev pub invariant-loop-n : goal.invariant-loop-n
invariant-loop-n l =
    Printed (l.initial.out.bytes ++ steps_from 64 1 (world l.initial.machine l.initial.trail l.initial.memory (bytes_of l.initial.rows) l.initial.history)) l.out.bytes l.n (world l.machine l.trail l.memory (bytes_of l.rows) l.history)
