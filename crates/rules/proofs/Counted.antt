-- The number of lit spots over a change of the picture: where its test passes it stays in range and counts back to what it was, and a
-- true number passes and stays true.
use mathlib.Core.Path.{◌≡◌, refl, sym, ap, ap₂}
use mathlib.Core.Bool.{Bool, true, false, ◌&&◌, and-eq-true_iff, false≢true}
use mathlib.Core.List.{List, [], ◌∷◌}
use Prim.Native.Nat.{ℕ, zero, suc, ◌+◌, ◌-◌, ◌*◌, ◌%◌, ◌/◌, ◌≤◌, ◌<◌}
use native.Mathlib.Nat.{mod-lt, zero-lt-suc, zero-add, add-zero, zero-div}
use native.Mathlib.Omega.{arith}
use lib.Dec.{eqb, leb}
use borrow.Author.Tests.{eqb-true, leb-true, le-leb}
use Rattle.rules.specs.Number.{pick, unless, same}
use Rattle.rules.specs.Picture.{spot, sum_from, lit_first, lit_spots}
use Rattle.rules.specs.Step.{Board, lit_after, lit_refusal, counted}
use Rattle.rules.specs.Lit.{LitSum, LitFew}
use Rattle.rules.proofs.Good.{GoodBoard}
use Rattle.rules.proofs.Choices.{passed}

-- ---- sums over spots

pub sum_add : (f : ℕ → ℕ → ℕ) (n k s : ℕ) → sum_from f (n + k) s ≡ sum_from f n s + sum_from f k (s + n)
sum_add f zero k s = rw (zero-add k, add-zero s) (omega arith)
sum_add f (suc n) k s =
    let e : suc n + k ≡ suc (n + k) = omega arith in
    let q : s + 1 + n ≡ s + suc n = omega arith in
    rw (e, ← q) (omega (arith, sum_add f n k (s + 1)))

-- at most one for each spot
sum_few : (f : ℕ → ℕ → ℕ) → ((x y : ℕ) → f x y < 2) → (n s : ℕ) → sum_from f n s ≤ n
sum_few f h zero s = omega arith
sum_few f h (suc n) s = omega (arith, h (s % 64) (s / 64), sum_few f h n (s + 1))

-- ---- the count of a picture, byte after byte, is the sum over its spots

-- a byte in front moves every spot on by eight
spot_on : (b : ℕ) (P : List ℕ) (s : ℕ) → spot (b ∷ P) ((s + 8) % 64) ((s + 8) / 64) ≡ spot P (s % 64) (s / 64)
spot_on b P s =
    let at : 8 * ((s + 8) / 64) + (s + 8) % 64 / 8 ≡ suc (8 * (s / 64) + s % 64 / 8) = omega arith in
    let place : 7 - (s + 8) % 64 % 8 ≡ 7 - s % 64 % 8 = omega arith in
    rw (at, place)

sum_on : (b : ℕ) (P : List ℕ) (n s : ℕ) → sum_from (spot (b ∷ P)) n (s + 8) ≡ sum_from (spot P) n s
sum_on b P zero s = refl
sum_on b P (suc n) s =
    let next : s + 8 + 1 ≡ s + 1 + 8 = omega arith in
    rw next (ap₂ ◌+◌ (spot_on b P s) (sum_on b P n (s + 1)))

sum_none : (n s : ℕ) → sum_from (spot []) n s ≡ 0
sum_none zero s = refl
sum_none (suc n) s = rw (zero-div, sum_none n (s + 1))

first_sum : (n : ℕ) (P : List ℕ) → lit_first n P ≡ sum_from (spot P) (n * 8) 0
unfolding lit_first
first_sum zero P = refl
first_sum (suc n) [] = sym (sum_none (suc n * 8) 0)
first_sum (suc n) (b ∷ P) =
    let more : suc n * 8 ≡ 8 + n * 8 = omega arith in
    rw (more, sum_add (spot (b ∷ P)) 8 (n * 8) 0) (omega (arith, first_sum n P, sum_on b P (n * 8) 0))

pub lit_sum : LitSum
unfolding lit_spots
lit_sum picture = first_sum 256 picture

pub lit_few : LitFew
lit_few picture = rw (lit_sum picture) (sum_few (spot picture) (λ x y. mod-lt _ (zero-lt-suc 1)) 2048 0)

-- ---- from picture p to picture q

-- lists that pass the test are equal
same_is : (p q : List ℕ) → same p q ≡ true → p ≡ q
same_is [] [] e = refl
same_is [] (y ∷ q) e = absurd (false≢true e)
same_is (x ∷ p) [] e = absurd (false≢true e)
same_is (x ∷ p) (y ∷ q) e = let both = (and-eq-true_iff (eqb x y) (same p q)).0 e in ap₂ ◌∷◌ (eqb-true x y both.0) (same_is p q both.1)

module _ (n : ℕ) (p q : List ℕ) where
  abbrev sum : ℕ
  sum = n + lit_spots q

  -- where nothing changes the two counts are one: so what is picked then is what the counts give
  equal : same p q ≡ true → lit_spots p ≡ lit_spots q
  equal e = ap lit_spots (same_is p q e)

  pub after_is : lit_after n p q ≡ sum - lit_spots p
  unfolding lit_after
  after_is = go (same p q) refl
    where
      go : (t : Bool) → same p q ≡ t → pick t n (sum - lit_spots p) ≡ sum - lit_spots p
      go true e = omega (arith, equal e)
      go false e = refl

  pub lit_between : lit_refusal n p q ≡ 0 → (lit_spots p ≤ sum) × (sum ≤ lit_spots p + 2048)
  unfolding lit_refusal
  lit_between e = go (same p q) refl e
    where
      low : Bool
      low = leb (lit_spots p) sum

      high : Bool
      high = leb sum (lit_spots p + 2048)

      go : (t : Bool) → same p q ≡ t → unless (pick t (leb n 2048) (leb (lit_spots p) sum && leb sum (lit_spots p + 2048))) 10 0 ≡ 0
          → (lit_spots p ≤ sum) × (sum ≤ lit_spots p + 2048)
      go true i e = let few = leb-true n 2048 (passed (leb n 2048) 9 0 e).0 in (omega (arith, equal i), omega (arith, equal i))
      go false i e =
          let both = (and-eq-true_iff low high).0 (passed (low && high) 9 0 e).0 in
          (leb-true (lit_spots p) sum both.0, leb-true sum (lit_spots p + 2048) both.1)

  pub lit_passes : lit_spots p ≤ sum → sum ≤ lit_spots p + 2048 → lit_refusal n p q ≡ 0
  unfolding lit_refusal
  lit_passes low high = go (same p q) refl
    where
      go : (t : Bool) → same p q ≡ t → unless (pick t (leb n 2048) (leb (lit_spots p) sum && leb sum (lit_spots p + 2048))) 10 0 ≡ 0
      go true e = rw (le-leb n 2048 (omega (arith, equal e)))
      go false e = rw (le-leb _ _ low, le-leb _ _ high)

  -- else it is refused
  pub lit_fails : (lit_spots p ≤ sum → sum ≤ lit_spots p + 2048 → ⊥) → lit_refusal n p q ≡ 10
  unfolding lit_refusal
  lit_fails not =
      ten (pick (same p q) (leb n 2048) (leb (lit_spots p) sum && leb sum (lit_spots p + 2048))) (λ z. let both = lit_between z in not both.0 both.1)
    where
      ten : (t : Bool) → (unless t 10 0 ≡ 0 → ⊥) → unless t 10 0 ≡ 10
      ten true ne = absurd (ne refl)
      ten false ne = refl

  pub lit_range : lit_refusal n p q ≡ 0 → lit_after n p q ≤ 2048
  lit_range e = rw after_is (omega (arith, lit_between e))

  -- the number is as far from the picture's count as it was
  pub as_far : lit_refusal n p q ≡ 0 → lit_after n p q + lit_spots p ≡ n + lit_spots q
  as_far e = rw after_is (omega (arith, lit_between e))

  pub true_passes : n ≡ lit_spots p → lit_refusal n p q ≡ 0
  true_passes e = lit_passes (omega arith) (omega (arith, lit_few q))

-- ---- from a picture to itself

module _ (n : ℕ) (p : List ℕ) where
  pub lit_same : lit_after n p p ≡ n
  lit_same = rw (after_is n p p) (omega arith)

  pub same_passes : n ≤ 2048 → lit_refusal n p p ≡ 0
  same_passes h = lit_passes n p p (omega arith) (omega arith)

-- ---- and back

-- counted back from b', the number is b's, and the test passes
pub record Recounts (b b' : Board) : Type 0 where
  pub lit : lit_after b'.machine.lit b'.picture b.picture ≡ b.machine.lit
  pub late : lit_refusal b'.machine.lit b'.picture b.picture ≡ 0

module _ (b c : Board) (most : b.machine.lit ≤ 2048) where
  pub still_recounts : c.machine.lit ≡ b.machine.lit → c.picture ≡ b.picture → Recounts b c
  still_recounts e f = rw (e, f) (record { lit = lit_same _ _; late = same_passes _ _ most })

  pub counted_recounts : lit_refusal b.machine.lit b.picture c.picture ≡ 0 → Recounts b (counted b c)
  counted_recounts e =
      let n = b.machine.lit in
      let p = b.picture in
      let q = c.picture in
      let far = as_far n p q e in
      let back = after_is (lit_after n p q) q p in
      record { lit = omega (arith, back, far); late = lit_passes _ _ _ (omega (arith, far)) (omega (arith, far)) }

pub counted_good : (b c : Board) → GoodBoard c → lit_refusal b.machine.lit b.picture c.picture ≡ 0 → GoodBoard (counted b c)
counted_good b c g e =
    let m = g.machine in
    record {
      machine = record {
        v = m.v;
        i = m.i;
        pc = m.pc;
        calls = m.calls;
        timers = m.timers;
        wait = m.wait;
        lit = lit_range b.machine.lit b.picture c.picture e;
        end = m.end;
      };
      memory = g.memory;
      picture = g.picture;
    }
