-- The invariant: the spots before s are turned, and the others stand as they were.
use mathlib.Core.Path.{◌≡◌}
use lib.ListN.{length}
use Rattle.spots.proofs.Walked.{Walking, turned_at}
use Rattle.spots.proofs.draw.Given as goal

abbrev pub invariant-loop-s : goal.invariant-loop-s
invariant-loop-s l =
    (length l.initial.spots ≡ 2048) × Walking l.initial.spots (turned_at l.pattern l.column l.row l.initial.spots) l.spots l.s
