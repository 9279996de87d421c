-- A byte moved to the highest eight bits loses nothing.
use mathlib.Core.Path.{ap}
use Prim.Native.Nat.{ℕ, ◌/◌, ◌^◌}
use native.Mathlib.Nat.{mod-eq_of_lt}
use native.Mathlib.Omega.{arith}
use Rattle.pattern.proofs.mask_of.Goals as goal

pub returns : goal.returns
returns c = ap (λ (n : ℕ). n / 2 ^ c.args.column) (mod-eq_of_lt (omega arith))
