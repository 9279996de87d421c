-- The loop's invariant: i bytes are laid, and the rest stands as it was.
use mathlib.Core.Path.{refl}
use native.Mathlib.Omega.{arith}
use Rattle.rules.proofs.Laid.{none, more, laid}
use Rattle.memory.proofs.lay.Goals as goal

pub loop-i-init : goal.loop-i-init
loop-i-init c = none _ _ _ _ refl c.requires

pub loop-i-preserved : goal.loop-i-preserved
loop-i-preserved c = more _ _ _ _ _ _ _ c.loop-i.invariant (omega arith) refl

pub shape_of-buffer : goal.shape_of-buffer
shape_of-buffer c = c.loop-i.invariant.same

pub returns : goal.returns
returns c = laid _ _ _ _ _ _ c.loop-i.invariant (omega arith)
