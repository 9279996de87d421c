-- The rule of a table: where the test of all its starts is true, five bytes from a digit's start are the digit.
use mathlib.Core.Path.{◌≡◌, refl, sym, ap, ap₂, ◌∙◌}
use mathlib.Core.Bool.{true, and-eq-true_iff}
use mathlib.Core.List.{List, [], ◌∷◌}
use Prim.Native.Nat.{ℕ, zero, suc, ◌+◌, ◌*◌, ◌/◌, ◌%◌, ◌≤◌, ◌<◌}
use native.Mathlib.Nat.{zero-add, add-zero}
use native.Mathlib.Omega.{arith}
use lib.Dec.{eqb, leb}
use lib.ListN.{length, get_or, drop}
use lib.Seq.{get_or-take, get_or-drop}
use borrow.Author.Tests.{eqb-true, leb-true}
use Rattle.rules.specs.Number.{same}
use Rattle.rules.specs.Memory.{part}
use Rattle.rules.specs.Load.{digits}
use Rattle.digits.specs.Table.{is_digit, are_digits}

same_true : (a b : List ℕ) → same a b ≡ true → a ≡ b
same_true [] [] e = refl
same_true [] (y ∷ b) e = cc
same_true (x ∷ a) [] e = cc
same_true (x ∷ a) (y ∷ b) e =
    let h = (and-eq-true_iff (eqb x y) (same a b)).0 e in
    ap₂ ◌∷◌ (eqb-true x y h.0) (same_true a b h.1)

module _ (table : List ℕ) where
  at : (starts : List ℕ) (k i : ℕ) → are_digits table k starts ≡ true → i < length starts → is_digit table (k + i) (get_or starts i 0) ≡ true
  unfolding are_digits
  at [] k i e h = absurd (omega arith)
  at (s ∷ starts) k zero e h = rw add-zero ((and-eq-true_iff (is_digit table k s) (are_digits table (suc k) starts)).0 e).0
  at (s ∷ starts) k (suc i) e h =
      let next : k + suc i ≡ suc k + i = omega arith in
      rw next (at starts (suc k) i ((and-eq-true_iff (is_digit table k s) (are_digits table (suc k) starts)).0 e).1 (omega arith))

  pub record Found (k start : ℕ) : Type 0 where
    pub inside : start + 5 ≤ length table
    pub right : part table start 5 ≡ part digits (5 * k) 5

  pub found : (starts : List ℕ) (k start : ℕ) → are_digits table 0 starts ≡ true → k < length starts → start ≡ get_or starts k 0 → Found k start
  found starts k start e h s =
      let test : is_digit table k start ≡ true = rw (← s, zero-add) at (at starts 0 k e h) in
      let both = (and-eq-true_iff (leb (start + 5) (length table)) (same (part table start 5) (part digits (5 * k) 5))).0 test in
      record { inside = leb-true _ _ both.0; right = same_true _ _ both.1 }

  -- so the byte at a place of the digits is one of them
  pub byte : (start at : ℕ) → Found (at / 5) start → get_or table (start + at % 5) 0 ≡ get_or digits at 0
  byte start at p =
      let inside : at % 5 < 5 = omega arith in
      let whole : 5 * (at / 5) + at % 5 ≡ at = omega arith in
      sym (get_or-take 5 (drop start table) (at % 5) 0 inside ∙ get_or-drop start table (at % 5) 0)
      ∙ ap (λ (l : List ℕ). get_or l (at % 5) 0) p.right
      ∙ get_or-take 5 (drop (5 * (at / 5)) digits) (at % 5) 0 inside ∙ get_or-drop (5 * (at / 5)) digits (at % 5) 0
      ∙ ap (λ (i : ℕ). get_or digits i 0) whole
