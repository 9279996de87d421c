-- The invariant: the bytes of y rows are laid over the rows' bytes.
use Prim.Native.Nat.{◌*◌}
use lib.ListN.{length}
use Rattle.rules.proofs.Laid.{Laid}
use Rattle.rules.specs.Rows.{bytes_of}
use Rattle.picture.proofs.put_rows.Given as goal

abbrev pub invariant-loop-y : goal.invariant-loop-y
invariant-loop-y l = Laid (bytes_of l.initial.rows) l.k l.bytes (length l.bytes) (bytes_of l.rows) (8 * l.y)
