-- The invariant: the count is the tally of what the callee finds at the spots passed.
use lib.Bits.{differ}
use Rattle.rules.specs.Picture.{shown}
use Rattle.spots.specs.Spots.{spot_at}
use Rattle.spots.proofs.Walked.{Tally}
use Rattle.spots.proofs.lit_after.Given as goal

abbrev pub invariant-loop-s : goal.invariant-loop-s
invariant-loop-s l = Tally (λ x y. differ (spot_at l.spots x y) (shown l.pattern l.column l.row x y)) l.s l.count
