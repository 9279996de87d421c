-- The invariant: the rows passed are kept and turned over, and both numbers have their spots.
use Prim.Native.Nat.{◌-◌, ◌*◌}
use Rattle.rules.specs.Memory.{part}
use Rattle.rules.specs.Rows.{bytes_of}
use Rattle.rules.proofs.Laid.{Laid}
use Rattle.pattern.specs.Masks.{met_at, shows_at}
use Rattle.pattern.proofs.Gathered.{Gathered}
use Rattle.drawing.specs.Turned.{Turned}
use Rattle.drawing.proofs.eight.Given as goal

abbrev pub invariant-loop-y : goal.invariant-loop-y
invariant-loop-y l =
    Gathered l.column (met_at l.pattern l.column l.row l.initial.rows) l.from l.y l.met × Gathered l.column (shows_at l.pattern l.column l.row) l.from l.y l.shown
    × Turned l.pattern l.column l.row l.from l.y l.initial.rows l.rows
    × Laid l.initial.place l.at (part (bytes_of l.initial.rows) (8 * l.from) (8 * (l.to - l.from))) (8 * (l.to - l.from)) l.place (8 * (l.y - l.from))
