-- The invariant: i bytes are laid over the rows' bytes.
use lib.ListN.{length}
use Rattle.rules.proofs.Laid.{Laid}
use Rattle.rules.specs.Rows.{bytes_of}
use Rattle.picture.proofs.put_each.Given as goal

abbrev pub invariant-loop-i : goal.invariant-loop-i
invariant-loop-i l = Laid (bytes_of l.initial.rows) l.k l.bytes (length l.bytes) (bytes_of l.rows) l.i
