-- Whether a list is all zeros, asked element by element: an element that is not 0 settles it, and one that is leaves the rest.
use mathlib.Core.Path.{◌≡◌}
use mathlib.Core.Bool.{true, false}
use mathlib.Core.List.{List}
use Prim.Native.Nat.{ℕ, ◌+◌, ◌≤◌, ◌<◌}
use native.Mathlib.Numerals.{add-one}
use borrow.Author.Tests.{eq-eqb, ne_eqb}
use lib.ListN.{get_or, drop, length, drop_of_length-le}
use lib.Seq.{drop-cons}
use Rattle.rules.specs.State.{zeros}

pub zeros_stop : (l : List ℕ) (k : ℕ) → k < length l → (get_or l k 0 ≡ 0 → ⊥) → zeros (drop k l) ≡ false
zeros_stop l k h ne = rw (drop-cons l k 0 h, ne_eqb (get_or l k 0) 0 ne)

pub zeros_on : (l : List ℕ) (k : ℕ) → k < length l → get_or l k 0 ≡ 0 → zeros (drop k l) ≡ zeros (drop (k + 1) l)
zeros_on l k h e = rw (drop-cons l k 0 h, eq-eqb (get_or l k 0) 0 e, add-one)

pub zeros_end : (l : List ℕ) (k : ℕ) → length l ≤ k → zeros (drop k l) ≡ true
zeros_end l k h = rw (drop_of_length-le l {i = k} h)
