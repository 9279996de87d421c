-- The invariant: the bytes of i rows are laid.
use Prim.Native.Nat.{◌*◌}
use Rattle.rules.specs.Memory.{part}
use Rattle.rules.specs.Rows.{bytes_of}
use Rattle.rules.proofs.Laid.{Laid}
use Rattle.picture.proofs.lay_rows.Given as goal

abbrev pub invariant-loop-i : goal.invariant-loop-i
invariant-loop-i l = Laid l.initial.place l.at (part (bytes_of l.rows) (8 * l.from) (8 * l.count)) (8 * l.count) l.place (8 * l.i)
