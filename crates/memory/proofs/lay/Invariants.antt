-- The loop's invariant: i bytes are laid, and the rest stands as it was.
use lib.ListN.{length}
use Rattle.rules.proofs.Laid.{Laid}
use Rattle.memory.proofs.lay.Given as goal

abbrev pub invariant-loop-i : goal.invariant-loop-i
invariant-loop-i l = Laid l.initial.buffer l.at l.new (length l.new) l.buffer l.i
