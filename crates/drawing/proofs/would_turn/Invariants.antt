-- The invariant: of the rows that are passed both counts are right.
use Prim.Native.Nat.{◌+◌}
use Rattle.picture.proofs.LitRows.{CountedAbove}
use Rattle.pattern.specs.Masks.{met_at, shows_at}
use Rattle.drawing.proofs.would_turn.Given as goal

abbrev pub invariant-loop-k : goal.invariant-loop-k
invariant-loop-k l =
    CountedAbove (λ j. met_at l.pattern l.column l.row l.rows (l.row + j)) l.k l.dark
    × CountedAbove (λ j. shows_at l.pattern l.column l.row (l.row + j)) l.k l.shown
