-- The invariant: after i entries, what is still to be done from here gives the same answer.
use Rattle.plain_step.specs.Does.{board_on}
use Rattle.plain.proofs.Entries.{Running}
use Rattle.plain.proofs.run_entries.Given as goal

abbrev pub invariant-loop-i : goal.invariant-loop-i
invariant-loop-i l =
    Running l.ticks l.keys l.randoms (board_on l.initial.machine l.initial.memory l.initial.spots) l.machine l.memory l.spots l.i
