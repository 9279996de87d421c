-- A rule of a table, proved at all of its entries by one test that the checker computes, one entry after the other; so the table doubles.
use mathlib.Core.Path.{◌≡◌}
use mathlib.Core.Bool.{Bool, true, false, ◌&&◌}
use mathlib.Core.List.{List, [], ◌∷◌}
use Prim.Native.Nat.{ℕ, zero, suc, ◌+◌, ◌<◌}
use native.Mathlib.Nat.{add-zero, zero-add, add-suc, suc-add, le_of_suc-le-suc, not-suc-le-zero}
use lib.Dec.{T, eqb, eqb→eq}
use lib.ListN.{length, get_or}
use Rattle.panel.specs.Panel.{twice, Doubles}

left : (a b : Bool) → T (a && b) → T a
left true b t = tt
left false b t = t

right : (a b : Bool) → T (a && b) → T b
right true b t = t
right false b t = absurd t

-- each entry is what the rule says of its place, counted from i
abbrev pub every : (ℕ → ℕ) → ℕ → List ℕ → Bool
every rule i [] = true
every rule i (x ∷ xs) = eqb x (rule i) && every rule (suc i) xs

module _ (rule : ℕ → ℕ) where
  from : (xs : List ℕ) (i : ℕ) → T (every rule i xs) → (k : ℕ) → k < length xs → get_or xs k 0 ≡ rule (i + k)
  from [] i t k h = absurd (not-suc-le-zero h)
  from (x ∷ xs) i t zero h = rw add-zero (eqb→eq x (rule i) (left (eqb x (rule i)) (every rule (suc i) xs) t))
  from (x ∷ xs) i t (suc k) h =
      rw (add-suc, ← suc-add) (from xs (suc i) (right (eqb x (rule i)) (every rule (suc i) xs) t) k (le_of_suc-le-suc h))

  at : (xs : List ℕ) → T (every rule 0 xs) → (k : ℕ) → k < length xs → get_or xs k 0 ≡ rule k
  at xs t k h = rw zero-add at (from xs 0 t k h)

pub doubles : (table : List ℕ) → length table ≡ 256 → T (every twice 0 table) → Doubles table
doubles table size t = record { entry = λ b h. at twice table t b (rw size h) }
