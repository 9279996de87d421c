-- The invariant: of the row, k records are seen, and the rest of it starts before place n beside the depth d.
use mathlib.Core.Path.{◌≡◌}
use Prim.Native.Nat.{◌+◌, ◌-◌, ◌<◌}
use Rattle.rules.specs.World as fit
use Rattle.salvage_row.specs.Row.{row}
use Rattle.salvage_row.proofs.row_length.Given as goal

abbrev pub invariant-loop-k : goal.invariant-loop-k
invariant-loop-k l =
    (l.places ≡ fit.places l.history) × (l.n < l.places) × (l.k + row l.end l.history (l.kept - l.k) l.n l.d ≡ row l.end l.history l.kept l.next l.depth)
