-- Rows turned over one after the other: none yet, one more, and those of two parts together.
use mathlib.Core.Path.{◌≡◌, refl, ap₂, ◌∙◌}
use mathlib.Core.List.{List}
use Prim.Native.Nat.{ℕ, ◌+◌, ◌≤◌, ◌<◌}
use native.Mathlib.Decide.{dec_lt, ℕ_discrete}
use native.Mathlib.Omega.{arith}
use lib.Bits.{bit_xor}
use lib.ListN.{length, get_or, set, length-set}
use lib.Seq.{get_or-set_same, get_or-set_other}
use Rattle.pattern.specs.Masks.{mask_at}
use Rattle.drawing.specs.Turned.{Turned}

module _ (pattern : List ℕ) (column row from : ℕ) (r : List ℕ) where
  pub none_turned : Turned pattern column row from from r r
  none_turned = record { above = λ y l. refl; inside = λ y l m. absurd (omega arith); beneath = λ y l. refl; sized = refl }

  pub one_turned : (y m : ℕ) (s : List ℕ) → Turned pattern column row from y r s → from ≤ y → y < length r → m ≡ mask_at pattern column row y
      → Turned pattern column row from (y + 1) r (set s y (bit_xor (get_or s y 0) m))
  one_turned y m s t h l is =
      let new = bit_xor (get_or s y 0) m in
      record {
        above = λ k a. get_or-set_other s y k new 0 (omega arith) ∙ t.above k a;
        inside = λ k a b. by k a b (ℕ_discrete k y);
        beneath = λ k a. get_or-set_other s y k new 0 (omega arith) ∙ t.beneath k (omega arith);
        sized = length-set s y new ∙ t.sized;
      }
    where
      by : (k : ℕ) → from ≤ k → k < y + 1 → Dec (k ≡ y) → get_or (set s y (bit_xor (get_or s y 0) m)) k 0 ≡ bit_xor (get_or r k 0) (mask_at pattern column row k)
      by k a b (yes e) = rw e (get_or-set_same s y _ 0 (omega (arith, t.sized)) ∙ ap₂ bit_xor (t.beneath y (omega arith)) is)
      by k a b (no ne) = get_or-set_other s y k _ 0 ne ∙ t.inside k a (omega arith)

  pub more_turned : (y to : ℕ) (s q : List ℕ) → Turned pattern column row from y r s → Turned pattern column row y to s q → from ≤ y → y ≤ to
      → Turned pattern column row from to r q
  more_turned y to s q t u h l =
      record {
        above = λ k a. u.above k (omega arith) ∙ t.above k a;
        inside = λ k a b. by k a b (dec_lt k y);
        beneath = λ k a. u.beneath k a ∙ t.beneath k (omega arith);
        sized = u.sized ∙ t.sized;
      }
    where
      by : (k : ℕ) → from ≤ k → k < to → Dec (k < y) → get_or q k 0 ≡ bit_xor (get_or r k 0) (mask_at pattern column row k)
      by k a b (yes c) = u.above k c ∙ t.inside k a c
      by k a b (no c) = u.inside k (omega arith) b ∙ ap₂ bit_xor (t.beneath k (omega arith)) refl
