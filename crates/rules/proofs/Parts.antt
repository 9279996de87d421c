-- Laws of lists: bytes replaced, a part read back, and lists whose elements are all below a bound.
use mathlib.Core.Path.{◌≡◌, sym, ap, ◌∙◌}
use mathlib.Core.List.{List, [], ◌∷◌, ◌++◌, append_assoc}
use Prim.Native.Nat.{ℕ, zero, suc, ◌+◌, ◌-◌, ◌≤◌, ◌<◌, min}
use native.Mathlib.Nat.{suc-sub-suc, sub-zero, zero-sub}
use native.Mathlib.Omega.{arith}
use lib.ListN.{get_or, set, take, drop, length, replicate, length-append, length-take, length-drop, take-append-drop}
use lib.Seq.{take_at, drop_at, length-take-le, take-append-le, drop-append-le, drop-drop, get_or-take, get_or-drop, ext_get_or}
use Rattle.rules.specs.Memory.{part, over}
use Rattle.rules.specs.Typed.{Below, none, more}
use Rattle.rules.proofs.Good.{Bytes}

abbrev pub zeroes : ℕ → List ℕ
zeroes n = replicate n 0

-- what is read or replaced in the first of two lists
module _ (a b : List ℕ) (s n : ℕ) (fits : s + n ≤ length a) where
  pub part_front : part (a ++ b) s n ≡ part a s n
  part_front = rw (drop-append-le s a b (omega arith)) (take-append-le n (drop s a) b (simp length-drop (omega arith)))

  pub over_front : (new : List ℕ) → over (a ++ b) s new n ≡ over a s new n ++ b
  over_front new = rw (take-append-le s a b (omega arith), drop-append-le (s + n) a b fits) (sym (append_assoc (take s a ++ new) (drop (s + n) a) b))

module _ (a new : List ℕ) (s n : ℕ) (fits : s + n ≤ length a) (sized : length new ≡ n) where
  pub over_length : length (over a s new n) ≡ length a
  over_length = simp (length-append, length-take, length-drop) (omega arith)

  pub over_take : take s (over a s new n) ≡ take s a
  over_take = rw append_assoc (take_at (take s a) (new ++ drop (s + n) a) s (length-take-le s a (omega arith)))

  pub over_drop : drop (s + n) (over a s new n) ≡ drop (s + n) a
  over_drop = drop_at (take s a ++ new) (drop (s + n) a) (s + n) (simp (length-append, length-take) (omega arith))

  pub part_over_same : part (over a s new n) s n ≡ new
  part_over_same =
      rw (append_assoc, drop_at (take s a) (new ++ drop (s + n) a) s (length-take-le s a (omega arith))) (take_at new (drop (s + n) a) n sized)

  pub part_over_before : (p k : ℕ) → p + k ≤ s → part (over a s new n) p k ≡ part a p k
  part_over_before p k h =
      let front : (l : List ℕ) → part (take s a ++ l) p k ≡ part (take s a) p k =
      λ l. part_front (take s a) l p k (simp length-take (omega arith)) in
      rw append_assoc (front (new ++ drop (s + n) a) ∙ sym (front (drop s a)) ∙ ap (λ (l : List ℕ). part l p k) (take-append-drop s a))

  -- and from any element behind them
  pub over_far : (p : ℕ) → s + n ≤ p → drop p (over a s new n) ≡ drop p a
  over_far p h =
      let whole : s + n + (p - (s + n)) ≡ p = omega arith in
      let far : (l : List ℕ) → drop (p - (s + n)) (drop (s + n) l) ≡ drop p l =
      λ l. drop-drop (p - (s + n)) (s + n) l ∙ ap (λ (q : ℕ). drop q l) whole in
      sym (far (over a s new n)) ∙ ap (drop (p - (s + n))) over_drop ∙ far a

  pub part_over_after : (p k : ℕ) → s + n ≤ p → part (over a s new n) p k ≡ part a p k
  part_over_after p k h = ap (take k) (over_far p h)

-- what is put back is what was there, wherever only those bytes were changed
pub put_back : (a b : List ℕ) (s n : ℕ) → take s a ≡ take s b → drop (s + n) a ≡ drop (s + n) b → over a s (part b s n) n ≡ b
put_back a b s n before behind =
    rw (before, behind, append_assoc, ← drop-drop n s b, take-append-drop n (drop s b)) (take-append-drop s b)

pub part_length : (a : List ℕ) (s n : ℕ) → s + n ≤ length a → length (part a s n) ≡ n
part_length a s n h = simp (length-take, length-drop) (omega arith)

-- what is lent from s to s + n is the part of n elements there
pub lent_part : (s n : ℕ) (l : List ℕ) → take (s + n - s) (drop s l) ≡ part l s n
lent_part s n l = let cut : s + n - s ≡ n = omega arith in rw cut

-- ---- lists that are equal up to an element, or from it on

module _ (n : ℕ) (a b : List ℕ) (e : length a ≡ length b) where
  pub same_take : ((i : ℕ) → i < n → i < length a → get_or a i 0 ≡ get_or b i 0) → take n a ≡ take n b
  same_take h =
      ext_get_or 0 (take n a) (take n b) (simp length-take (rw e)) λ i l.
      let l₁ : i < min n (length a) = rw length-take at l in
      get_or-take n a i 0 (omega arith) ∙ h i (omega arith) (omega arith) ∙ sym (get_or-take n b i 0 (omega arith))

  pub same_drop : ((i : ℕ) → n ≤ i → i < length a → get_or a i 0 ≡ get_or b i 0) → drop n a ≡ drop n b
  same_drop h =
      ext_get_or 0 (drop n a) (drop n b) (simp length-drop (rw e)) λ i l.
      let l₁ : i < length a - n = rw length-drop at l in
      get_or-drop n a i 0 ∙ h (n + i) (omega arith) (omega arith) ∙ sym (get_or-drop n b i 0)

-- ---- each element is below a bound

module _ {n : ℕ} where
  pub below_of : (l : List ℕ) → ((i : ℕ) → i < length l → get_or l i 0 < n) → Below n l
  below_of [] h = none
  below_of (x ∷ l) h = more (h 0 (omega arith)) (below_of l (λ i p. h (suc i) (omega arith)))

  pub below_get : {l : List ℕ} → 0 < n → Below n l → (i : ℕ) → get_or l i 0 < n
  below_get p none i = p
  below_get p (more h t) zero = h
  below_get p (more h t) (suc i) = below_get p t i

  pub below_set : {l : List ℕ} → Below n l → (i x : ℕ) → x < n → Below n (set l i x)
  below_set none i x p = none
  below_set (more h t) zero x p = more p t
  below_set (more h t) (suc i) x p = more h (below_set t i x p)

  pub below_append : {a b : List ℕ} → Below n a → Below n b → Below n (a ++ b)
  below_append none t = t
  below_append (more h s) t = more h (below_append s t)

  pub below_take : {a : List ℕ} → Below n a → (i : ℕ) → Below n (take i a)
  below_take none zero = none
  below_take none (suc i) = none
  below_take (more h t) zero = none
  below_take (more h t) (suc i) = more h (below_take t i)

  pub below_drop : {a : List ℕ} → Below n a → (i : ℕ) → Below n (drop i a)
  below_drop none zero = none
  below_drop none (suc i) = none
  below_drop (more h t) zero = more h t
  below_drop (more h t) (suc i) = below_drop t i

  pub below_zeros : (i : ℕ) → 0 < n → Below n (zeroes i)
  below_zeros zero p = none
  below_zeros (suc i) p = more p (below_zeros i p)

pub below_over : {n : ℕ} {a new : List ℕ} → Below n a → Below n new → (s k : ℕ) → Below n (over a s new k)
below_over h t s k = below_append (below_append (below_take h s) t) (below_drop h (s + k))

-- and as long as before
pub bytes_over : {n k : ℕ} {a new : List ℕ} → Bytes n a → Bytes k new → (s : ℕ) → s + k ≤ n → Bytes n (over a s new k)
bytes_over {k = k} {a} {new} g h s fits =
    record {
      size = over_length a new s k (omega (arith, g.size)) h.size ∙ g.size;
      below = below_over g.below h.below s k;
    }

pub drop_zeros : (i k : ℕ) → drop i (zeroes k) ≡ zeroes (k - i)
drop_zeros zero k = rw sub-zero
drop_zeros (suc i) zero = rw zero-sub
drop_zeros (suc i) (suc k) = rw suc-sub-suc (drop_zeros i k)
