-- What is found and done spot by spot: a tally of the spots passed, and spots that are written one after the other.
use mathlib.Core.Path.{◌≡◌, refl, sym, ap, ◌∙◌}
use mathlib.Core.Bool.{true, ◌&&◌, and-eq-true_iff}
use mathlib.Core.List.{List, [], ◌∷◌}
use Prim.Native.Nat.{ℕ, zero, suc, ◌+◌, ◌*◌, ◌/◌, ◌%◌, ◌<◌, ◌≤◌, min}
use native.Mathlib.Nat.{zero-add}
use native.Mathlib.Numerals.{add-one}
use native.Mathlib.Decide.{ℕ_discrete}
use native.Mathlib.Omega.{arith}
use lib.ListN.{get_or, length, set, take, length-set}
use lib.Seq.{get_or-set_same, get_or-set_other, take-length}
use lib.Bits.{differ}
use lib.Dec.{leb}
use borrow.Author.Tests.{le-leb, leb-true}
use Rattle.std.specs.List.{list_all, sum_by}
use Rattle.std.proofs.lemmas.List.Sums.{sum_by_more}
use Rattle.rules.specs.Picture.{shown, sum_from}
use Rattle.rules.specs.Typed.{Below, none, more}
use Rattle.rules.proofs.Parts.{below_set}
use Rattle.rules.proofs.Counted.{sum_add}
use Rattle.rules.proofs.Spots.{by_spots}
use Rattle.spots.specs.Spots.{spot_at, all_spots, AreSpots}
use Rattle.spots.proofs.Forms.{spot_small}

-- the spot in the column and the row of number s is spot s
pub spot_here : (spots : List ℕ) (s : ℕ) → spot_at spots (s % 64) (s / 64) ≡ get_or spots s 0
spot_here spots s = let at : 64 * (s / 64) + s % 64 ≡ s = omega arith in rw at

-- ---- a tally

-- the sum over the first s spots
pub record Tally (f : ℕ → ℕ → ℕ) (s count : ℕ) : Type 0 where
  pub is : count ≡ sum_from f s 0
  pub few : count ≤ s
  pub inside : s ≤ 2048

module _ {f : ℕ → ℕ → ℕ} where
  pub tally_none : Tally f 0 0
  tally_none = record { is = refl; few = omega arith; inside = omega arith }

  pub tally_more : (s count n : ℕ) → Tally f s count → s < 2048 → n ≡ f (s % 64) (s / 64) → n < 2 → Tally f (s + 1) (count + n)
  tally_more s count n t h e l =
      let one : sum_from f (s + 1) 0 ≡ sum_from f s 0 + (f (s % 64) (s / 64) + 0) = rw (sum_add f s 1 0, zero-add s) in
      record { is = omega (arith, t.is, one); few = omega (arith, t.few); inside = omega arith }

  pub tally_few : (s count : ℕ) → Tally f s count → count ≤ 2048
  tally_few s count t = omega (arith, t.few, t.inside)

  -- how many they are is a variable, since a sum of 2,048 would be written out
  pub tally_all : (all : ℕ) → all ≡ 2048 → (s count : ℕ) → Tally f s count → all ≤ s → count ≡ sum_from f all 0
  tally_all all is s count t h = let e : s ≡ all = omega (arith, t.inside) in t.is ∙ ap (λ (n : ℕ). sum_from f n 0) e

-- the sum of a list of spots, one after the other
module _ (spots : List ℕ) (small : (k : ℕ) → get_or spots k 0 < 2) where
  tally_taken : (s : ℕ) → s ≤ length spots → length spots ≤ 2048 → Tally (spot_at spots) s (sum_by (λ n. n) (take s spots))
  tally_taken zero h few = tally_none
  tally_taken (suc s) h few =
      rw (← add-one s, sum_by_more (λ n. n) spots s 0 (omega arith))
      (tally_more s _ _ (tally_taken s (omega arith) few) (omega arith) (sym (spot_here spots s)) (small s))

  pub tally_whole : (all : ℕ) → all ≡ 2048 → length spots ≡ all → (sum_by (λ n. n) spots ≡ sum_from (spot_at spots) all 0) × (sum_by (λ n. n) spots ≤ 2048)
  tally_whole all is size =
      let whole : take all spots ≡ spots = rw size at (take-length spots) in
      let t = rw whole at (tally_taken all (omega arith) (omega arith)) in
      (t.is, tally_few all _ t)

-- ---- spots written one after the other

-- below s they are as g says, and from s on as they were
pub record Walking (old : List ℕ) (g : ℕ → ℕ) (new : List ℕ) (s : ℕ) : Type 0 where
  pub are : AreSpots new
  pub done : (k : ℕ) → k < s → get_or new k 0 ≡ g k
  pub left : (k : ℕ) → s ≤ k → get_or new k 0 ≡ get_or old k 0
  pub inside : s ≤ 2048

module _ (old : List ℕ) (g : ℕ → ℕ) where
  pub walk_none : AreSpots old → Walking old g old 0
  walk_none a = record { are = a; done = λ k h. absurd (omega arith); left = λ k h. refl; inside = omega arith }

  pub walk_more : (new : List ℕ) (s n : ℕ) → Walking old g new s → s < 2048 → n ≡ g s → n < 2 → Walking old g (set new s n) (s + 1)
  walk_more new s n w h e l =
      record {
        are = record { size = length-set new s n ∙ w.are.size; each = below_set w.are.each s n l };
        done = λ k b. by k b (ℕ_discrete k s);
        left = λ k b. get_or-set_other new s k n 0 (λ q. omega arith) ∙ w.left k (omega arith);
        inside = omega arith;
      }
    where
      by : (k : ℕ) → k < s + 1 → Dec (k ≡ s) → get_or (set new s n) k 0 ≡ g k
      by k b (yes q) = rw q (get_or-set_same new s n 0 (omega (arith, w.are.size)) ∙ e)
      by k b (no ne) = get_or-set_other new s k n 0 ne ∙ w.done k (omega arith)

-- spot k of those spots as a drawing leaves it
abbrev pub turned_at : List ℕ → ℕ → ℕ → List ℕ → ℕ → ℕ
turned_at pattern column row spots k = differ (spot_at spots (k % 64) (k / 64)) (shown pattern column row (k % 64) (k / 64))

-- a spot that is not passed yet is the old one, so it is turned as the old one is
pub walk_turned : (pattern : List ℕ) (column row : ℕ) (old new : List ℕ) (s n : ℕ) → Walking old (turned_at pattern column row old) new s → s < 2048
    → n ≡ turned_at pattern column row new s → n < 2 → Walking old (turned_at pattern column row old) (set new s n) (s + 1)
walk_turned pattern column row old new s n w h e l =
    let stands = spot_here new s ∙ w.left s (omega arith) ∙ sym (spot_here old s) in
    walk_more old (turned_at pattern column row old) new s n w h (e ∙ ap (λ (p : ℕ). differ p (shown pattern column row (s % 64) (s / 64))) stands) l

-- ---- one spot, and the bit h that is shown there

module _ (spots : List ℕ) (a : AreSpots spots) (s h r : ℕ) (few : h < 2) (is : r ≡ h) where
  abbrev here : ℕ
  here = spot_at spots (s % 64) (s / 64)

  small : here < 2
  small = spot_small a _

  pub turned_dark : get_or spots s 0 ≡ r → 0 ≡ differ here h
  turned_dark e =
      by_spots (λ (p q : ℕ). p ≡ q → 0 ≡ differ p q) (λ e. refl) (λ e. absurd (omega arith)) (λ e. absurd (omega arith)) (λ e. refl) here h small few
      (spot_here spots s ∙ e ∙ is)

  pub turned_lit : (get_or spots s 0 ≡ r → ⊥) → 1 ≡ differ here h
  turned_lit ne =
      by_spots (λ (p q : ℕ). (p ≡ q → ⊥) → 1 ≡ differ p q) (λ n. absurd (n refl)) (λ n. refl) (λ n. refl) (λ n. absurd (n refl)) here h small few
      (λ e. ne (sym (spot_here spots s) ∙ e ∙ sym is))

  pub met_dark : get_or spots s 0 ≡ 0 → 0 ≡ min here h
  met_dark e = omega (arith, spot_here spots s)

  pub met_lit : (get_or spots s 0 ≡ 0 → ⊥) → r ≡ min here h
  met_lit ne =
      is ∙ by_spots (λ (p q : ℕ). (p ≡ 0 → ⊥) → q ≡ min p q) (λ n. absurd (n refl)) (λ n. absurd (n refl)) (λ n. refl) (λ n. refl) here h small few
      (λ e. ne (sym (spot_here spots s) ∙ e))

-- ---- the test of all of them

pub all_are : (l : List ℕ) → list_all (λ s. leb s 1) l ≡ all_spots l
all_are [] = refl
all_are (x ∷ l) = ap (λ b. leb x 1 && b) (all_are l)

-- where all passed, each is below 2
pub all_below : (l : List ℕ) → all_spots l ≡ true → Below 2 l
all_below [] e = none
all_below (x ∷ l) e =
    let both = (and-eq-true_iff (leb x 1) (all_spots l)).0 e in
    let small : x < 2 = omega (arith, leb-true x 1 both.0) in
    more small (all_below l both.1)

pub below_all : (l : List ℕ) → Below 2 l → all_spots l ≡ true
below_all [] none = refl
below_all (x ∷ l) (more h t) = rw (le-leb x 1 (omega arith), below_all l t)
