-- Sums over spots, over rows and over bytes: the spots that are bits of numbers are as many as those numbers have ones.
use mathlib.Core.Path.{◌≡◌, refl, sym, ap, ap₂, ◌∙◌}
use mathlib.Core.List.{List}
use Prim.Native.Nat.{ℕ, zero, suc, ◌+◌, ◌-◌, ◌*◌, ◌/◌, ◌%◌, ◌^◌, ◌≤◌, ◌<◌}
use native.Mathlib.Nat.{add-zero, add-suc, zero-add, zero-mul, suc-mul, pow-suc}
use native.Mathlib.Decide.{le_ind}
use native.Mathlib.Omega.{arith}
use native.Mathlib.Numerals.{add-one}
use lib.ListN.{length, get_or, take}
use lib.Count.{ones, ones_step}
use Rattle.std.specs.List.{sum_by}
use Rattle.std.proofs.lemmas.List.Sums.{sum_by_more}
use Rattle.rules.specs.Number.{bit}
use Rattle.rules.specs.Picture.{sum_from}
use Rattle.picture.specs.Sums.{summed, between}
use Rattle.picture.proofs.Bits.{bit_down}

-- ---- sums

pub summed_same : (f g : ℕ → ℕ) (n : ℕ) → ((k : ℕ) → k < n → f k ≡ g k) → summed f n ≡ summed g n
unfolding summed
summed_same f g zero h = refl
summed_same f g (suc n) h = ap₂ ◌+◌ (summed_same f g n (λ k l. h k (omega arith))) (h n (omega arith))

summed_add : (f : ℕ → ℕ) (m n : ℕ) → summed f (m + n) ≡ summed f m + summed (λ k. f (m + k)) n
unfolding summed
summed_add f m zero = rw (add-zero m) (sym (add-zero (summed f m)))
summed_add f m (suc n) = rw (add-suc m n, summed_add f m n) (omega arith)

-- a sum goes on, by terms that are its own from there on
pub summed_on : (f g : ℕ → ℕ) (from to s d : ℕ) → from ≤ to → ((k : ℕ) → from ≤ k → g k ≡ f k) → s ≡ summed f from → d ≡ between g from to
    → s + d ≡ summed f to
summed_on f g from to s d h same is more =
    let all : from + (to - from) ≡ to = omega arith in
    let terms : between g from to ≡ between f from to = summed_same (λ k. g (from + k)) (λ k. f (from + k)) (to - from) (λ k l. same (from + k) (omega arith)) in
    ap₂ ◌+◌ is (more ∙ terms) ∙ sym (summed_add f from (to - from)) ∙ ap (summed f) all

-- a sum over a list, element by element
pub summed_list : (f : ℕ → ℕ) (l : List ℕ) (n : ℕ) → n ≤ length l → sum_by f (take n l) ≡ summed (λ k. f (get_or l k 0)) n
unfolding summed
summed_list f l zero h = refl
summed_list f l (suc n) h = rw (← add-one n, sum_by_more f l n 0 (omega arith), summed_list f l n (omega arith))

pub summed_le : (f g : ℕ → ℕ) → ((k : ℕ) → f k ≤ g k) → (n : ℕ) → summed f n ≤ summed g n
unfolding summed
summed_le f g h zero = omega arith
summed_le f g h (suc n) = omega (arith, summed_le f g h n, h n)

pub summed_few : (f : ℕ → ℕ) (m : ℕ) → ((k : ℕ) → f k ≤ m) → (n : ℕ) → summed f n ≤ n * m
unfolding summed
summed_few f m h zero = omega arith
summed_few f m h (suc n) = rw suc-mul (omega (arith, summed_few f m h n, h n))

-- where nothing is added, the sum stays
pub summed_skip : (f : ℕ → ℕ) (c e : ℕ) → c ≤ e → ((k : ℕ) → c ≤ k → k < e → f k ≡ 0) → summed f e ≡ summed f c
unfolding summed
summed_skip f c =
    le_ind (λ (e : ℕ). ((k : ℕ) → c ≤ k → k < e → f k ≡ 0) → summed f e ≡ summed f c) (λ h. refl)
    (λ e l go h. ap₂ ◌+◌ (go (λ k a b. h k a (omega arith))) (h e l (omega arith)) ∙ add-zero (summed f c))

-- ---- the spots of a picture

pub sum_plus : (f g h : ℕ → ℕ → ℕ) → ((x y : ℕ) → f x y + g x y ≡ h x y) → (n s : ℕ) → sum_from f n s + sum_from g n s ≡ sum_from h n s
sum_plus f g h e zero s = refl
sum_plus f g h e (suc n) s = omega (arith, sum_plus f g h e n (s + 1), e (s % 64) (s / 64))

sum_last : (f : ℕ → ℕ → ℕ) (n s : ℕ) → sum_from f (suc n) s ≡ sum_from f n s + f ((s + n) % 64) ((s + n) / 64)
sum_last f zero s = rw (add-zero s) (omega arith)
sum_last f (suc n) s =
    let at : s + 1 + n ≡ s + suc n = omega arith in
    ap (λ (m : ℕ). f (s % 64) (s / 64) + m) (sum_last f n (s + 1)) ∙ rw at (omega arith)

sum_total : (f : ℕ → ℕ → ℕ) (n : ℕ) → sum_from f n 0 ≡ summed (λ k. f (k % 64) (k / 64)) n
unfolding summed
sum_total f zero = refl
sum_total f (suc n) = sum_last f n 0 ∙ rw (zero-add n, sum_total f n)

-- a sum taken w terms at a time
summed_by : (f : ℕ → ℕ) (w n : ℕ) → summed f (n * w) ≡ summed (λ y. summed (λ x. f (y * w + x)) w) n
unfolding summed
summed_by f w zero = ap (summed f) (zero-mul w)
summed_by f w (suc n) = rw (suc-mul, summed_add f (n * w) w, summed_by f w n)

pub ones_zero : ones 0 ≡ 0
unfolding ones
ones_zero = refl

-- the bits of a number are as many as its ones
ones_are : (n a : ℕ) → a < 2 ^ n → summed (λ j. bit (n - 1 - j) a) n ≡ ones a
unfolding summed ones
ones_are zero a h = let none : a ≡ 0 = omega arith in rw none
ones_are (suc n) a h =
    let at : (j : ℕ) → j < n → bit (suc n - 1 - j) a ≡ bit (n - 1 - j) (a / 2) =
    λ j l. ap (λ (e : ℕ). bit e a) (omega arith) ∙ sym (bit_down a 1 (n - 1 - j)) in
    let last : suc n - 1 - n ≡ 0 = omega arith in
    rw (summed_same _ _ n at, ones_are n (a / 2) (omega (arith, pow-suc 2 n)), last, ones_step a) (omega arith)

-- spots that are the bits of rows
pub sum_rows : (f : ℕ → ℕ → ℕ) (N : ℕ → ℕ) → ((y : ℕ) → N y < 2 ^ 64) → ((x y : ℕ) → x < 64 → y < 32 → f x y ≡ bit (63 - x) (N y))
    → sum_from f 2048 0 ≡ summed (λ y. ones (N y)) 32
sum_rows f N small is =
    sum_total f 2048 ∙ summed_by _ 64 32 ∙ summed_same _ _ 32 λ y l.
    summed_same _ _ 64 (λ x m. ap₂ f (omega arith) (omega arith) ∙ is x y m l) ∙ ones_are 64 (N y) (small y)
