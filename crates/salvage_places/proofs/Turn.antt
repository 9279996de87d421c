-- How far behind next each place stands: the place before it by none, and each place by one more than seen from the place before next.
use mathlib.Core.Path.{◌≡◌}
use Prim.Native.Nat.{ℕ, zero, suc, ◌-◌, ◌<◌}
use native.Mathlib.Omega.{arith}
use Rattle.rules.specs.Call.{place_before}
use Rattle.rules.proofs.Choices.{by_test, by_order}
use Rattle.rules.proofs.Ready.{before_below}
use Rattle.salvage_row.specs.Row.{place_back}
use Rattle.salvage_places.specs.Places.{behind, PlacesBack}

behind_first : (r n : ℕ) → n < r → behind r n (place_before r n) ≡ 0
behind_first r n h =
    by_test (λ (q : ℕ). behind r n q ≡ 0) n 0
    (λ e. by_order (λ (a : ℕ). a ≡ 0) (r - 1) n (λ l. omega arith) (λ l. omega arith))
    (λ e. by_order (λ (a : ℕ). a ≡ 0) (n - 1) n (λ l. omega arith) (λ l. omega arith))

behind_next : (r n p j : ℕ) → n < r → p < r → suc j < r → behind r (place_before r n) p ≡ j → behind r n p ≡ suc j
behind_next r n p j hn hp hj =
    by_test (λ (q : ℕ). behind r q p ≡ j → behind r n p ≡ suc j) n 0
    (λ z. by_order (λ (a : ℕ). a ≡ j → behind r n p ≡ suc j) p (r - 1)
    (λ l e. by_order (λ (a : ℕ). a ≡ suc j) p n (λ m. omega arith) (λ m. omega arith))
    (λ l e. by_order (λ (a : ℕ). a ≡ suc j) p n (λ m. omega arith) (λ m. omega arith)))
    (λ z. by_order (λ (a : ℕ). a ≡ j → behind r n p ≡ suc j) p (n - 1)
    (λ l e. by_order (λ (a : ℕ). a ≡ suc j) p n (λ m. omega arith) (λ m. omega arith))
    (λ l e. by_order (λ (a : ℕ). a ≡ suc j) p n (λ m. omega arith) (λ m. omega arith)))

pub back_below : (r n j : ℕ) → n < r → place_back r n j < r
back_below r n zero h = before_below r n h
back_below r n (suc j) h = back_below r (place_before r n) j (before_below r n h)

pub places_back : PlacesBack
places_back r n zero hn hj = behind_first r n hn
places_back r n (suc j) hn hj =
    let q = before_below r n hn in
    behind_next r n (place_back r (place_before r n) j) j hn (back_below r (place_before r n) j q) hj
    (places_back r (place_before r n) j q (omega arith))
