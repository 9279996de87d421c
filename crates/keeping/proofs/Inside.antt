-- A place that was lent comes back changed; what is laid into it is laid into the history, that much further on.
use mathlib.Core.Path.{◌≡◌, sym, ap, ◌∙◌}
use mathlib.Core.List.{List, ◌++◌, append_assoc}
use Prim.Native.Nat.{ℕ, ◌+◌, ◌-◌, ◌≤◌}
use native.Mathlib.Nat.{add_assoc}
use native.Mathlib.Omega.{arith}
use lib.ListN.{length, take, drop, take-append-drop}
use lib.Seq.{take-append-add, drop-append-add, length-take-le, drop-drop}
use Rattle.rules.specs.Memory.{part, over}
use borrow.Rule.Slice.PartMut.{put_mid}
use Rattle.rules.proofs.Laid.{lent}
use Rattle.rules.proofs.Parts.{part_length, lent_part, over_front}

-- the first n elements behind `at` were lent
pub lent_place : (xs front rest new : List ℕ) (at n : ℕ) → front ≡ take at xs → rest ≡ drop at xs → front ++ (new ++ drop n rest) ≡ over xs at new n
lent_place xs front rest new at n e f = rw (e, f, drop-drop n at xs) (sym (append_assoc (take at xs) new (drop (at + n) xs)))

-- what is replaced in the second of two lists
over_back : (a b new : List ℕ) (at s n : ℕ) → length a ≡ at → over (a ++ b) (at + s) new n ≡ a ++ over b s new n
over_back a b new at s n e =
    rw (← e, add_assoc (length a) s n, take-append-add a b s, drop-append-add a b (s + n)) (simp append_assoc)

-- in the k elements from a on, n were replaced, from the one at s on
pub over_inside : (a k : ℕ) (xs new : List ℕ) (s n : ℕ) → a + k ≤ length xs → s + n ≤ k → over xs a (over (part xs a k) s new n) k ≡ over xs (a + s) new n
over_inside a k xs new s n room fits =
    let front = take a xs in
    let place = part xs a k in
    let behind = drop (a + k) xs in
    let whole : front ++ (place ++ behind) ≡ xs = rw (← drop-drop k a xs, take-append-drop k (drop a xs)) (take-append-drop a xs) in
    let sized : length front ≡ a = length-take-le a xs (omega arith) in
    append_assoc front (over place s new n) behind
    ∙ ap (λ (l : List ℕ). front ++ l) (sym (over_front place behind s n (omega (arith, part_length xs a k room)) new))
    ∙ sym (over_back front (place ++ behind) new a s n sized)
    ∙ ap (λ (l : List ℕ). over l (a + s) new n) whole

-- and the k elements were lent
pub lent_inside : (a k : ℕ) (xs ys new : List ℕ) (s n : ℕ) → a + k ≤ length xs → s + n ≤ k
    → ys ≡ over (take (a + k - a) (drop a xs)) s new n → put_mid a (a + k - a) xs ys ≡ over xs (a + s) new n
lent_inside a k xs ys new s n room fits e = lent a k xs ys _ (rw (lent_part a k xs) at e) ∙ over_inside a k xs new s n room fits
