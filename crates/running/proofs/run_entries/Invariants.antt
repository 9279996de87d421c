-- The invariant: after i entries, what is still to be done from here gives the same answer.
use Rattle.rules.specs.World.{world}
use Rattle.rules.specs.Rows.{bytes_of}
use Rattle.parts.specs.Whole.{whole}
use Rattle.running.proofs.Entries.{Running}
use Rattle.running.proofs.run_entries.Given as goal

abbrev pub invariant-loop-i : goal.invariant-loop-i
invariant-loop-i l =
    Running l.ticks l.keys l.randoms (world (whole l.initial.c l.initial.v l.initial.stack) l.initial.trail l.initial.memory (bytes_of l.initial.rows) l.initial.history) (world (whole l.c l.v l.stack) l.trail l.memory (bytes_of l.rows) l.history) l.i l.dark l.copied
