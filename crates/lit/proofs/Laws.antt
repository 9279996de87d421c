-- The tests of the number, by what is turned over: the counts of the two pictures differ by just that.
use mathlib.Core.Path.{◌≡◌}
use mathlib.Core.List.{List}
use Prim.Native.Nat.{ℕ, ◌+◌, ◌-◌, ◌≤◌, ◌<◌}
use native.Mathlib.Omega.{arith}
use Rattle.picture.specs.declared.Spots.{Spots}
use Rattle.rules.specs.Picture.{drawn, darkened, lightened, lit_spots}
use Rattle.rules.specs.Step.{lit_after, lit_refusal}
use Rattle.rules.proofs.Parts.{zeroes}
use Rattle.rules.proofs.Counted.{after_is, lit_between, lit_passes, lit_fails}
use Rattle.rules.proofs.Balance.{drawn_lit}
use Rattle.rules.proofs.Lit.{lit_none}
use Rattle.lit.specs.Balance.{Balance}

module _ (n : ℕ) (s : Spots) (p q : List ℕ) (t : Balance s p q) where
  pub too_few : n + s.lit < s.dark → lit_refusal n p q ≡ 10
  too_few h = lit_fails n p q (λ low high. omega arith)

  pub too_many : s.dark + 2048 < n + s.lit → lit_refusal n p q ≡ 10
  too_many h = lit_fails n p q (λ low high. omega arith)

  pub passes : s.dark ≤ n + s.lit → n + s.lit ≤ s.dark + 2048 → lit_refusal n p q ≡ 0
  passes low high = lit_passes n p q (omega arith) (omega arith)

  -- and a number that passes them passes what `counted` asks
  pub in_range : lit_refusal n p q ≡ 0 → (s.dark ≤ n + s.lit) × (n + s.lit ≤ s.dark + 2048)
  in_range e = let (low, high) = lit_between n p q e in (omega arith, omega arith)

  pub becomes : s.dark ≤ n + s.lit → n + s.lit - s.dark ≡ lit_after n p q
  becomes low = rw (after_is n p q) (omega arith)

-- ---- what a drawing and 00E0 turn over

pub drawn_balance : (s : Spots) (pattern : List ℕ) (column row : ℕ) (P : List ℕ)
    → s.dark ≡ darkened pattern column row P → s.lit ≡ lightened pattern column row P → Balance s P (drawn pattern column row P)
drawn_balance s pattern column row P dark lit = rw (dark, lit) (drawn_lit pattern column row P)

pub cleared_balance : (s : Spots) (P : List ℕ) → s.dark ≡ lit_spots P → s.lit ≡ 0 → Balance s P (zeroes 256)
cleared_balance s P dark lit = rw (lit_none, dark, lit) (omega arith)
