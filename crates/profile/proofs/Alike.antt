-- Choices and tests that are alike where they are reached.
use mathlib.Core.Path.{◌≡◌, refl}
use mathlib.Core.Bool.{Bool, true, false}
use Prim.Native.Nat.{ℕ}
use lib.Dec.{eqb}
use borrow.Author.Tests.{eqb-true}
use Rattle.rules.specs.Number.{pick, unless, or_later}

pub pick_along : {A : Type 0} (f : A → A) (t : Bool) {x x' y y' : A} → x' ≡ f x → y' ≡ f y → pick t x' y' ≡ f (pick t x y)
pick_along f true a b = a
pick_along f false a b = b

pub unless_same : (t : Bool) (k : ℕ) {x y : ℕ} → (t ≡ true → x ≡ y) → unless t k x ≡ unless t k y
unless_same true k h = h refl
unless_same false k h = refl

pub zero_same : (n z : ℕ) {x y : ℕ} → (n ≡ 0 → x ≡ y) → pick (eqb n 0) x z ≡ pick (eqb n 0) y z
zero_same n z {x} {y} h = go (eqb n 0) refl
  where
    go : (t : Bool) → eqb n 0 ≡ t → pick t x z ≡ pick t y z
    go true e = h (eqb-true n 0 e)
    go false e = refl

pub later_same : (n : ℕ) {x y : ℕ} → (n ≡ 0 → x ≡ y) → or_later n x ≡ or_later n y
later_same n = zero_same n n
