-- The invariant: i bytes are laid over the rows' bytes.
use mathlib.Core.Path.{refl}
use native.Mathlib.Omega.{arith}
use Rattle.rules.proofs.Laid.{none, more}
use Rattle.rules.proofs.Turning.{bytes_length}
use Rattle.picture.proofs.put_each.Goals as goal

pub loop-i-init : goal.loop-i-init
loop-i-init c = none _ _ _ _ refl (omega (arith, bytes_length c.args.rows.now))

pub loop-i-preserved : goal.loop-i-preserved
loop-i-preserved c = rw c.put_byte.ensures (more _ _ _ _ _ _ _ c.loop-i.invariant (omega arith) refl)
