-- How a loop fills the list: what is laid and what is still to come make the list that it is to be.
use mathlib.Core.Path.{◌≡◌, refl, sym, ap, ap₂, ◌∙◌}
use mathlib.Core.Bool.{Bool, true, false}
use mathlib.Core.List.{List, [], ◌∷◌, ◌++◌, append_assoc, append-nil}
use Prim.Native.Nat.{ℕ, suc, ◌+◌, ◌-◌, ◌*◌, ◌≤◌, ◌<◌}
use native.Mathlib.Nat.{add-zero, zero-add, sub-zero}
use native.Mathlib.Omega.{arith}
use lib.ListN.{length, take, drop, set, length-set, take-append-drop}
use lib.Seq.{take-suc-set, drop-set-lt, lt-length-set}
use Rattle.rules.specs.declared.Trail.{Trail}
use Rattle.rules.specs.Number.{pick}
use Rattle.rules.specs.Memory.{over}
use Rattle.salvage_places.specs.Places.{standing, in_row, others_from, others}
use Rattle.salvage_places.specs.Listed.{entries, laid, entered}

-- ---- one entry

entered_size : (l : List ℕ) (c x y : ℕ) → length (entered l c x y) ≡ length l
entered_size l c x y = simp length-set

-- the numbers that are still to come are laid from the count on
abbrev to_come : List ℕ → ℕ → List ℕ → List ℕ
to_come l c new = over l (2 * c) new (length new)

take_two : (l : List ℕ) (a x y : ℕ) → suc a < length l → take (suc (suc a)) (set (set l a x) (suc a) y) ≡ take a l ++ (x ∷ []) ++ (y ∷ [])
take_two l a x y h =
    take-suc-set (set l a x) (suc a) y (lt-length-set l a x h) ∙ ap (λ (f : List ℕ). f ++ (y ∷ [])) (take-suc-set l a x (omega arith))

drop_two : (l : List ℕ) (a b x y n : ℕ) → a < n → b < n → drop n (set (set l a x) b y) ≡ drop n l
drop_two l a b x y n h k = drop-set-lt n (set l a x) b y k ∙ drop-set-lt n l a x h

regroup : (f new : List ℕ) (x y : ℕ) → f ++ (x ∷ []) ++ (y ∷ []) ++ new ≡ f ++ (x ∷ y ∷ new)
regroup f new x y = simp append_assoc

entered_more : (l : List ℕ) (c x y : ℕ) (new : List ℕ) → 2 * c + 1 < length l → to_come (entered l c x y) (c + 1) new ≡ to_come l c (x ∷ y ∷ new)
entered_more l c x y new h =
    let a = 2 * c in
    let odd : a + 1 ≡ suc a = omega arith in
    let even : 2 * (c + 1) ≡ suc (suc a) = omega arith in
    let end : suc (suc a) + length new ≡ a + suc (suc (length new)) = omega arith in
    rw (odd, even, take_two l a x y (omega arith), drop_two l a (suc a) x y (suc (suc a) + length new) (omega arith) (omega arith))
    (ap₂ ◌++◌ (regroup (take a l) new x y) (ap (λ (n : ℕ). drop n l) end))

-- ---- one place

-- the places below p are looked at, and `count` of them are entered; with the entries for the places ps, which are still to come, there are
-- as many as there are to be, and the list is what it is to be
pub record Filling (r : ℕ) (t : Trail) (all l₀ : List ℕ) (p : ℕ) (ps l : List ℕ) (count : ℕ) : Type 0 where
  pub few : count ≤ p
  pub same : length l ≡ length l₀
  pub number : count + length ps ≡ length all
  pub list : to_come l count (entries r t ps) ≡ laid (entries r t all) l₀

-- place p is kept, or cleared and entered
turned : (r : ℕ) (t : Trail) (all l₀ : List ℕ) (kept : Bool) (p : ℕ) (ps qs l l' : List ℕ) (count count' : ℕ) → 2 * count + 1 < length l
    → qs ≡ pick kept ps (p ∷ ps) → count' ≡ pick kept count (count + 1) → l' ≡ pick kept l (entered l count p (standing r t p))
    → Filling r t all l₀ p qs l count → Filling r t all l₀ (p + 1) ps l' count'
unfolding entries
turned r t all l₀ true p ps qs l l' count count' room e f g s =
    rw (f, g) (record { few = omega (arith, s.few); same = s.same; number = rw e at s.number; list = rw e at s.list })
turned r t all l₀ false p ps qs l l' count count' room e f g s =
    let kind = standing r t p in
    rw (f, g)
    (record {
      few = omega (arith, s.few);
      same = entered_size l count p kind ∙ s.same;
      number = omega (arith, s.number, ap length e);
      list = entered_more l count p kind (entries r t ps) room ∙ rw e at s.list;
    })

-- ---- the loop

module _ (r : ℕ) (t : Trail) (k : ℕ) (l₀ : List ℕ) where
  abbrev left : ℕ → List ℕ
  left p = others_from r t.next k (r - p) p

  -- after the places below p
  abbrev pub Filled : ℕ → List ℕ → ℕ → Type 0
  Filled p l count = Filling r t (others r t.next k) l₀ p (left p) l count

  pub none_filled : Filled 0 l₀ 0
  none_filled = record { few = omega arith; same = refl; number = rw (sub-zero, zero-add); list = rw (sub-zero, zero-add) }

  -- the places from p on are p, where it is cleared, and those after it
  left_turn : (p : ℕ) → p < r → left p ≡ pick (in_row r t.next k p) (left (p + 1)) (p ∷ left (p + 1))
  unfolding others_from
  left_turn p h = let one : r - p ≡ suc (r - (p + 1)) = omega arith in rw one

  pub one_filled : (l l' : List ℕ) (count count' p : ℕ) → p < r → 2 * r ≤ length l₀ → Filled p l count
      → count' ≡ pick (in_row r t.next k p) count (count + 1)
      → l' ≡ pick (in_row r t.next k p) l (entered l count p (standing r t p)) → Filled (p + 1) l' count'
  one_filled l l' count count' p h room s f g =
      turned r t _ l₀ (in_row r t.next k p) p (left (p + 1)) (left p) l l' count count' (omega (arith, s.few, s.same)) (left_turn p h) f g s

  pub all_filled : (l : List ℕ) (count p : ℕ) → r ≤ p → Filled p l count
      → (count ≡ length (others r t.next k)) × (l ≡ laid (entries r t (others r t.next k)) l₀)
  unfolding others_from entries
  all_filled l count p h s =
      let none : r - p ≡ 0 = omega arith in
      let number = rw none at s.number in
      let list = rw none at s.list in
      (sym (add-zero count) ∙ number, sym (rw (append-nil, add-zero) (take-append-drop (2 * count) l)) ∙ list)
