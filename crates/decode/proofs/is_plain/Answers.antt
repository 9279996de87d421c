-- The digit is looked up as the two callees say.
use Prim.Native.Nat.{ℕ, ◌<◌}
use native.Mathlib.Omega.{arith}
use lib.Dec.{eqb}
use Rattle.rules.proofs.Choices.{choice}
use Rattle.decode.proofs.is_plain.Goals as goal

pub overflow_shr-result : goal.overflow_shr-result
overflow_shr-result c =
    omega (arith, c.looked_for-digit.ensures, choice (λ (k : ℕ). k < 16) (eqb c.args.d 8) c.requires.1 c.requires.0)

pub returns : goal.returns
returns c = rw (c.looked_among-digits.ensures, c.looked_for-digit.ensures)
