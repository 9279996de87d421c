-- The loop's invariant: the bytes up to `at` are laid, and the rest stands as it was. The checker computes the test of the table.
use mathlib.Core.Path.{refl, sym}
use native.Mathlib.Nat.{zero-add}
use native.Mathlib.Omega.{arith}
use Rattle.rules.proofs.Laid.{none, more, laid}
use Rattle.digits.specs.Table.{are_digits}
use Rattle.digits.proofs.lay_digits.Goals as goal

pub digit_byte-requires : goal.digit_byte-requires
unfolding are_digits
digit_byte-requires c = (omega arith, refl)

pub loop-at-preserved : goal.loop-at-preserved
loop-at-preserved c =
    rw zero-add at (more _ _ _ _ _ _ _ c.loop-at.invariant (omega arith) (sym c.digit_byte.ensures))

pub loop-at-init : goal.loop-at-init
loop-at-init c = none _ _ _ _ refl (omega arith)

pub shape_of-memory : goal.shape_of-memory
shape_of-memory c = c.loop-at.invariant.same

pub returns : goal.returns
returns c = laid _ _ _ _ _ _ c.loop-at.invariant (omega arith)
