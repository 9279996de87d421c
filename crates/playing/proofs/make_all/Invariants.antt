-- The invariant: after i moves, what is still to be done from here gives the same answer.
use Rattle.rules.specs.Refusal.{number}
use Rattle.rules.specs.Rows.{bytes_of}
use Rattle.rules.specs.World.{world}
use Rattle.playing.proofs.Moves.{Playing}
use Rattle.playing.proofs.make_all.Given as goal

abbrev pub invariant-loop-i : goal.invariant-loop-i
invariant-loop-i l =
    Playing l.moves l.keys l.randoms (world l.initial.machine l.initial.trail l.initial.memory (bytes_of l.initial.rows) l.initial.history)
    (record { refusal = number l.last; world = world l.machine l.trail l.memory (bytes_of l.rows) l.history }) l.i
