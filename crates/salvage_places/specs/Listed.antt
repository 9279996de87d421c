-- The list that is lent for the report: two numbers for each place.
use Rattle.std.specs.Prelude.{◌≡◌, false, List, [], ◌∷◌, ◌++◌, ℕ, ◌+◌, ◌*◌, ◌<◌, length, get_or, set, drop}
use Rattle.rules.specs.declared.Trail.{Trail}
use Rattle.salvage_places.specs.Places.{standing, in_row, others}

-- an entry for each place: its number, and 0, 1 or 2 as it counts
unfoldable pub entries : ℕ → Trail → List ℕ → List ℕ
entries r t [] = []
entries r t (p ∷ ps) = p ∷ standing r t p ∷ entries r t ps

-- the new numbers in front; the rest of the list stays
abbrev pub laid : List ℕ → List ℕ → List ℕ
laid new list = new ++ drop (length new) list

-- the list with one entry more, behind `count` of them
abbrev pub entered : List ℕ → ℕ → ℕ → ℕ → List ℕ
entered list count p kind = set (set list (2 * count) p) (2 * count + 1) kind

-- ---- THE CLAIM, proved in proofs/Listing.antt, of the entries for the places that hold none of the k newest records

-- entry by entry: each has such a place, lowest place first, and as what it counts; and the rest of the list stays
pub record Tells (r : ℕ) (t : Trail) (k cleared : ℕ) (list after : List ℕ) : Type 0 where
  pub place : (i : ℕ) → i < cleared → get_or after (2 * i) 0 < r
  pub other : (i : ℕ) → i < cleared → in_row r t.next k (get_or after (2 * i) 0) ≡ false
  pub rises : (i : ℕ) → i + 1 < cleared → get_or after (2 * i) 0 < get_or after (2 * (i + 1)) 0
  pub kind : (i : ℕ) → i < cleared → get_or after (2 * i + 1) 0 ≡ standing r t (get_or after (2 * i) 0)
  pub rest : drop (2 * cleared) after ≡ drop (2 * cleared) list

abbrev pub TellsOthers : Type 0
TellsOthers =
    (r : ℕ) (t : Trail) (k : ℕ) (list : List ℕ)
    → let ps = others r t.next k in Tells r t k (length ps) list (laid (entries r t ps) list)
