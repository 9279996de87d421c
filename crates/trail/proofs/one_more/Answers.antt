-- The smaller of one more and R is R where all places are kept.
use Rattle.std.proofs.Common.{◌≡◌, ℕ, ◌+◌, ◌≤◌, arith}
use Prim.Native.Nat.{min}
use mathlib.Core.Logic.{◌⊎◌, inl, inr}
use Rattle.std.proofs.lemmas.Bool.{cases_eq, eq-eqb, ne_eqb}
use lib.Dec.{eqb}
use Rattle.rules.specs.Number.{pick}
use Rattle.trail.proofs.one_more.Goals as goal

at_most : (kept places : ℕ) → kept ≤ places → min (kept + 1) places ≡ pick (eqb kept places) places (kept + 1)
at_most kept places within = go (cases_eq kept places)
  where
    go : (kept ≡ places) ⊎ (kept ≡ places → ⊥) → min (kept + 1) places ≡ pick (eqb kept places) places (kept + 1)
    go (inl same) = rw (eq-eqb kept places same) (omega arith)
    go (inr other) = rw (ne_eqb kept places other) (omega arith)

pub returns : goal.returns
returns c = rw c.min.ensures (at_most _ _ c.requires.0)
