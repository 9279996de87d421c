-- The places that hold none of the k newest records, place by place from p on: they rise, each is such a place, and they are all but k.
use mathlib.Core.Path.{◌≡◌}
use mathlib.Core.Bool.{false}
use mathlib.Core.List.{List, ◌∷◌}
use Prim.Native.Nat.{ℕ, zero, suc, ◌+◌, ◌-◌, ◌≤◌, ◌<◌, min}
use native.Mathlib.Nat.{add-suc, suc-add}
use native.Mathlib.Omega.{arith}
use lib.ListN.{length, get_or}
use borrow.Author.Tests.{ltb-true, ltb-false}
use Rattle.rules.proofs.Choices.{by_bool, by_order}
use Rattle.salvage_places.specs.Places.{behind, in_row, others_from, EachOnce}

-- ---- which they are

-- some of the places from a on, each of them below b
pub record Rising (r n k a b : ℕ) (ps : List ℕ) : Type 0 where
  pub from : (i : ℕ) → i < length ps → a ≤ get_or ps i 0
  pub to : (i : ℕ) → i < length ps → get_or ps i 0 < b
  pub out : (i : ℕ) → i < length ps → in_row r n k (get_or ps i 0) ≡ false
  pub rise : (i : ℕ) → suc i < length ps → get_or ps i 0 < get_or ps (suc i) 0

module _ (r n k a b : ℕ) (ps : List ℕ) (h : Rising r n k (a + 1) b ps) where
  lower : Rising r n k a b ps
  lower = record { from = λ i l. omega (arith, h.from i l); to = h.to; out = h.out; rise = h.rise }

  put_from : (i : ℕ) → i < suc (length ps) → a ≤ get_or (a ∷ ps) i 0
  put_from zero l = omega arith
  put_from (suc i) l = omega (arith, h.from i (omega arith))

  put_to : a < b → (i : ℕ) → i < suc (length ps) → get_or (a ∷ ps) i 0 < b
  put_to e zero l = e
  put_to e (suc i) l = h.to i (omega arith)

  put_out : in_row r n k a ≡ false → (i : ℕ) → i < suc (length ps) → in_row r n k (get_or (a ∷ ps) i 0) ≡ false
  put_out e zero l = e
  put_out e (suc i) l = h.out i (omega arith)

  put_rise : (i : ℕ) → suc i < suc (length ps) → get_or (a ∷ ps) i 0 < get_or ps i 0
  put_rise zero l = omega (arith, h.from 0 (omega arith))
  put_rise (suc i) l = h.rise i (omega arith)

  put : a < b → in_row r n k a ≡ false → Rising r n k a b (a ∷ ps)
  put e t = record { from = put_from; to = put_to e; out = put_out t; rise = put_rise }

pub others_rise : (r n k left p : ℕ) → Rising r n k p (p + left) (others_from r n k left p)
unfolding others_from
others_rise r n k zero p =
    record {
      from = λ i l. absurd (omega arith);
      to = λ i l. absurd (omega arith);
      out = λ i l. absurd (omega arith);
      rise = λ i l. absurd (omega arith);
    }
others_rise r n k (suc left) p =
    let ps = others_from r n k left (p + 1) in
    let end : p + 1 + left ≡ p + suc left = omega arith in
    let rest : Rising r n k (p + 1) (p + suc left) ps = rw end at (others_rise r n k left (p + 1)) in
    by_bool (Rising r n k p (p + suc left)) (in_row r n k p) (λ e. lower r n k p (p + suc left) ps rest)
    (λ e. put r n k p (p + suc left) ps rest (omega arith) e)

-- ---- how many they are

module _ (r n k p : ℕ) (hn : n < r) (hk : k ≤ r) (hp : p < r) where
  -- of the places from p on, the row has the k below next, and the rest of them at the end
  abbrev low : ℕ → ℕ
  low p = min k (n - p)

  abbrev high : ℕ → ℕ
  high p = min (k - n) (r - p)

  high_still : p < n → high p ≡ high (p + 1)
  high_still l = omega arith

  low_still : n ≤ p → low p ≡ low (p + 1)
  low_still l = omega arith

  low_in : p < n → n - p - 1 < k → low p ≡ suc (low (p + 1))
  low_in l h = omega arith

  low_out : p < n → k ≤ n - p - 1 → low p ≡ low (p + 1)
  low_out l h = omega arith

  high_in : n ≤ p → n + r ≤ k + p → high p ≡ suc (high (p + 1))
  high_in l h = omega arith

  high_out : n ≤ p → k + p < n + r → high p ≡ high (p + 1)
  high_out l h = omega arith

  share_in : behind r n p < k → low p + high p ≡ suc (low (p + 1) + high (p + 1))
  share_in =
      by_order (λ (a : ℕ). a < k → low p + high p ≡ suc (low (p + 1) + high (p + 1))) p n
      (λ l h. rw (low_in l h, high_still l) (suc-add (low (p + 1)) (high (p + 1))))
      (λ l h. rw (low_still l, high_in l (omega arith)) (add-suc (low (p + 1)) (high (p + 1))))

  share_out : k ≤ behind r n p → low p + high p ≡ low (p + 1) + high (p + 1)
  share_out =
      by_order (λ (a : ℕ). k ≤ a → low p + high p ≡ low (p + 1) + high (p + 1)) p n (λ l h. rw (low_out l h, high_still l))
      (λ l h. rw (low_still l, high_out l (omega arith)))

-- one place more, in the row or not
one_kept : (a x y left : ℕ) → x ≡ suc y → a + y ≡ left → a + x ≡ suc left
one_kept a x y left e f = omega arith

one_other : (a x y left : ℕ) → x ≡ y → a + y ≡ left → suc a + x ≡ suc left
one_other a x y left e f = omega arith

others_from_law : (r n k : ℕ) → n < r → k ≤ r → (left p : ℕ) → p + left ≡ r
    → length (others_from r n k left p) + (min k (n - p) + min (k - n) (r - p)) ≡ left
unfolding others_from
others_from_law r n k hn hk zero p e = omega arith
others_from_law r n k hn hk (suc left) p e =
    let rest = others_from_law r n k hn hk left (p + 1) (omega arith) in
    let share = min k (n - p) + min (k - n) (r - p) in
    by_bool (λ (ps : List ℕ). length ps + share ≡ suc left) (in_row r n k p)
    (λ t. one_kept _ share _ left (share_in r n k p hn hk (omega arith) (ltb-true _ _ t)) rest)
    (λ t. one_other _ share _ left (share_out r n k p hn hk (omega arith) (ltb-false _ _ t)) rest)

pub each_once : EachOnce
each_once r n k hn hk = omega (arith, others_from_law r n k hn hk r 0 (omega arith))
