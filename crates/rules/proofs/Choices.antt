-- Laws of choices: what holds of each side holds of what is picked, and a number that is 0 says which side it came from.
use mathlib.Core.Path.{◌≡◌, refl}
use mathlib.Core.Bool.{Bool, true, false, ◌&&◌}
use Prim.Native.Nat.{ℕ, suc, ◌≤◌, ◌<◌}
use native.Mathlib.Omega.{arith}
use lib.Dec.{eqb, ltb}
use borrow.Author.Tests.{eqb-true, eqb-false, ltb-true, ltb-false}
use Rattle.rules.specs.Number.{pick, unless, or_later}

pub choice : {A : Type 0} (P : A → Type 0) (t : Bool) {p q : A} → P p → P q → P (pick t p q)
choice P true a b = a
choice P false a b = b

-- and where each side may use what the test says
pub by_bool : {A : Type 0} (P : A → Type 0) (t : Bool) {x y : A} → (t ≡ true → P x) → (t ≡ false → P y) → P (pick t x y)
by_bool P true a b = a refl
by_bool P false a b = b refl

pub by_test : {A : Type 0} (P : A → Type 0) (a b : ℕ) {x y : A} → (a ≡ b → P x) → ((a ≡ b → ⊥) → P y) → P (pick (eqb a b) x y)
by_test P a b same other = by_bool P (eqb a b) (λ e. same (eqb-true a b e)) (λ e. other (eqb-false a b e))

pub by_order : {A : Type 0} (P : A → Type 0) (a b : ℕ) {x y : A} → (a < b → P x) → (b ≤ a → P y) → P (pick (ltb a b) x y)
by_order P a b less other = by_bool P (ltb a b) (λ e. less (ltb-true a b e)) (λ e. other (ltb-false a b e))

-- of two that are picked by one test
pub by_tests : {A B : Type 0} (P : A → B → Type 0) (a b : ℕ) {x y : A} {x' y' : B} → (a ≡ b → P x x') → ((a ≡ b → ⊥) → P y y')
    → P (pick (eqb a b) x y) (pick (eqb a b) x' y')
by_tests P a b {x} {y} {x'} {y'} same other = go (eqb a b) refl
  where
    go : (t : Bool) → eqb a b ≡ t → P (pick t x y) (pick t x' y')
    go true e = same (eqb-true a b e)
    go false e = other (eqb-false a b e)

pub and_both : {p q : Bool} → p ≡ true → q ≡ true → (p && q) ≡ true
and_both a b = rw (a, b)

-- ---- a number is 0

pub not_zero : (k : ℕ) → suc k ≡ 0 → ⊥
not_zero k e = omega arith

pub passed : (t : Bool) (k x : ℕ) → unless t (suc k) x ≡ 0 → (t ≡ true) × (x ≡ 0)
passed true k x e = (refl, e)
passed false k x e = absurd (not_zero k e)

pub both_zero : (x y : ℕ) → or_later x y ≡ 0 → (x ≡ 0) × (y ≡ 0)
both_zero x y = by_test (λ (n : ℕ). n ≡ 0 → (x ≡ 0) × (y ≡ 0)) x 0 (λ z e. (z, e)) (λ ne e. absurd (ne e))

pub no_later : (x y : ℕ) → y ≡ 0 → or_later x y ≡ x
no_later x y e = by_test (λ (n : ℕ). n ≡ x) x 0 (λ z. omega arith) (λ ne. refl)
