-- A loop that lays the n elements of s into a list from `at` on, one store a turn: what holds after i turns, and at the end.
use mathlib.Core.Path.{◌≡◌, refl, sym, ap₂, ◌∙◌}
use mathlib.Core.List.{List, ◌++◌, append_assoc, append-nil}
use Prim.Native.Nat.{ℕ, ◌+◌, ◌-◌, ◌≤◌, ◌<◌}
use native.Mathlib.Nat.{add_assoc, add-zero, zero-add}
use native.Mathlib.Numerals.{add-one}
use native.Mathlib.Omega.{arith}
use borrow.Rule.Slice.PartMut.{put_mid, Post-is}
use Rattle.rules.specs.Memory.{part, over}
use Rattle.rules.proofs.Parts.{over_length, over_drop, part_length}
use lib.ListN.{length, take, drop, get_or, set, replicate, get_or-replicate, length-set, length-append, length-take, take-append-drop, drop_of_length-le}
use lib.Seq.{take-suc, take-suc-set, take-length, take_at, take-add, drop-set-lt, drop-drop}

pub record Laid (l₀ : List ℕ) (at : ℕ) (s : List ℕ) (n : ℕ) (l : List ℕ) (i : ℕ) : Type 0 where
  pub sized : length s ≡ n
  pub room : at + n ≤ length l₀
  pub inside : i ≤ n
  pub same : length l ≡ length l₀
  pub done : take (at + i) l ≡ take at l₀ ++ take i s
  pub left : drop (at + i) l ≡ drop (at + i) l₀

module _ (l₀ : List ℕ) (at : ℕ) (s : List ℕ) (n : ℕ) where
  pub none : length s ≡ n → at + n ≤ length l₀ → Laid l₀ at s n l₀ 0
  none e h = record { sized = e; room = h; inside = omega arith; same = refl; done = rw (add-zero, append-nil); left = refl }

  pub more : (l : List ℕ) (i x : ℕ) → Laid l₀ at s n l i → i < n → get_or s i 0 ≡ x → Laid l₀ at s n (set l (at + i) x) (i + 1)
  more l i x p h e =
      let r : at + i < length l = omega arith in
      let q : i < length s = omega arith in
      let one : at + (i + 1) ≡ at + i + 1 = omega arith in
      record {
        sized = p.sized;
        room = p.room;
        inside = omega arith;
        same = length-set l (at + i) x ∙ p.same;
        done = rw (← add_assoc at i 1, add-one (at + i), take-suc-set l (at + i) x, p.done, add-one i, take-suc s i 0, e, append_assoc);
        left = rw (drop-set-lt (at + (i + 1)) l (at + i) x (omega arith), one, ← drop-drop 1 (at + i) l, p.left, drop-drop 1 (at + i) l₀);
      }

  -- k of them laid at once
  pub more_part : (l x : List ℕ) (i k : ℕ) → Laid l₀ at s n l i → i + k ≤ n → x ≡ part s i k → Laid l₀ at s n (over l (at + i) x k) (i + k)
  more_part l x i k p h e =
      let sized : length x ≡ k = rw e (part_length s i k (omega arith)) in
      let fits : at + i + k ≤ length l = omega (arith, p.room, p.same) in
      record {
        sized = p.sized;
        room = p.room;
        inside = h;
        same = over_length l x (at + i) k fits sized ∙ p.same;
        done =
            rw (← add_assoc at i k)
            (take_at (take (at + i) l ++ x) (drop (at + i + k) l) (at + i + k) (simp (length-append, length-take) (omega arith))
            ∙ rw (p.done, e, append_assoc, take-add i k s));
        left =
            rw (← add_assoc at i k)
            (over_drop l x (at + i) k fits sized ∙ sym (drop-drop k (at + i) l) ∙ rw p.left (drop-drop k (at + i) l₀));
      }

  -- after n turns all of them are laid
  pub laid : (l : List ℕ) (i : ℕ) → Laid l₀ at s n l i → n ≤ i → l ≡ over l₀ at s n
  laid l i p h =
      let e : i ≡ n = omega arith in
      let whole : take n s ≡ s = rw p.sized at (take-length s) in
      let front : take (at + n) l ≡ take at l₀ ++ s = rw (e, whole) at p.done in
      let back : drop (at + n) l ≡ drop (at + n) l₀ = rw e at p.left in
      sym (take-append-drop (at + n) l) ∙ ap₂ ◌++◌ front back

  -- and nothing stands behind them where they reach the end
  pub full : (l : List ℕ) (i : ℕ) → Laid l₀ at s n l i → n ≤ i → at + n ≡ length l₀ → l ≡ take at l₀ ++ s
  full l i p h f = laid l i p h ∙ rw (drop_of_length-le l₀ {i = at + n} (omega arith), append-nil)

-- one zero more
pub more_zeros : (l₀ : List ℕ) (at n : ℕ) (l : List ℕ) (i : ℕ) → Laid l₀ at (replicate n 0) n l i → i < n
    → Laid l₀ at (replicate n 0) n (set l (at + i) 0) (i + 1)
more_zeros l₀ at n l i p h = more l₀ at (replicate n 0) n l i 0 p h (get_or-replicate _ _ _ _ h)

-- a piece x laid over p from `at` on, behind a beginning b
pub behind : (p q y x b : List ℕ) (at n : ℕ) → q ≡ over p at y (length y) → at ≤ length p → y ≡ x → length x ≡ n → take at p ≡ b
    → take (at + n) q ≡ b ++ x
behind p q y x b at n e room f h g =
    rw (e, ← h, ← f, ← g)
    (take_at (take at p ++ y) (drop (at + length y) p) (at + length y) (simp (length-append, length-take) (omega arith)))

-- what is laid over all of a list is all there is
pub over_all : (l x : List ℕ) → length l ≤ length x → over l 0 x (length x) ≡ x
over_all l x h = rw (zero-add, drop_of_length-le l {i = length x} h) (append-nil x)

-- a part of k elements was lent, and came back as zs
pub lent : (a k : ℕ) (xs ys zs : List ℕ) → ys ≡ zs → put_mid a (a + k - a) xs ys ≡ over xs a zs k
lent a k xs ys zs e = rw (e, Post-is a (a + k) xs (omega arith), append_assoc)
