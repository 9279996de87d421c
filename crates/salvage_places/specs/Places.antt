-- The places of a history, seen from next: which hold the newest records, and as what each counts.
use Rattle.std.specs.Prelude.{◌≡◌, Bool, List, [], ◌∷◌, ℕ, zero, suc, ◌+◌, ◌-◌, ◌≤◌, ◌<◌, length, ltb}
use Rattle.rules.specs.declared.Trail.{Trail}
use Rattle.rules.specs.Number.{pick}
use Rattle.salvage_row.specs.Row.{place_back}

-- how many of the r places stand between place p and next, n: so many records are newer than the one at p
abbrev pub behind : ℕ → ℕ → ℕ → ℕ
behind r n p = pick (ltb p n) (n - p - 1) (n + r - p - 1)

-- how many stand from next up to place p: so many records are met before it on the way forward
abbrev pub beyond : ℕ → ℕ → ℕ → ℕ
beyond r n p = pick (ltb p n) (p + r - n) (p - n)

-- whether a place holds one of the k newest records
abbrev pub in_row : ℕ → ℕ → ℕ → ℕ → Bool
in_row r n k p = ltb (behind r n p) k

-- 0, 1 or 2 as a place counts as kept, ahead or free
abbrev pub standing : ℕ → Trail → ℕ → ℕ
standing r t p = pick (in_row r t.next t.kept p) 0 (pick (ltb (beyond r t.next p) t.ahead) 1 2)

-- the places that hold none of the k newest records, lowest first, of the `left` places from p on
unfoldable pub others_from : ℕ → ℕ → ℕ → ℕ → ℕ → List ℕ
others_from r n k zero p = []
others_from r n k (suc left) p = let ps = others_from r n k left (p + 1) in pick (in_row r n k p) ps (p ∷ ps)

-- and of all r places
abbrev pub others : ℕ → ℕ → ℕ → List ℕ
others r n k = others_from r n k r 0

-- ---- THE CLAIMS, proved in proofs/Turn.antt and proofs/Others.antt

-- record j stands in the place that has j places between it and next
abbrev pub PlacesBack : Type 0
PlacesBack = (r n j : ℕ) → n < r → j < r → behind r n (place_back r n j) ≡ j

-- each place holds one of the k newest records, or is one of the others
abbrev pub EachOnce : Type 0
EachOnce = (r n k : ℕ) → n < r → k ≤ r → k + length (others r n k) ≡ r
