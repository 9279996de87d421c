-- The longest unbroken row of sound records: as a function that computes, and in the words of request Q-12.
use Rattle.std.specs.Prelude.{◌≡◌, Bool, false, List, ℕ, zero, suc, ◌*◌, ◌≤◌, ◌<◌}
use Rattle.rules.specs.Number.{pick}
use Rattle.rules.specs.Memory.{part}
use Rattle.rules.specs.Record.{place_size, at_depth, byte_at, damaged}
use Rattle.rules.specs.World.{places}
use Rattle.rules.specs.Call.{place_before}

-- the record at a place
abbrev pub record_at : List ℕ → ℕ → List ℕ
record_at history p = part history (place_size * p) place_size

-- the depth that a record holds
abbrev pub depth_at : List ℕ → ℕ
depth_at r = byte_at r at_depth

-- of the `kept` records before place n, how many from the newest backwards are sound up to the first damaged one, where memory has that
-- end; the newest is compared with the depth d, and each older one with the depth that the next newer one holds
unfoldable pub row : ℕ → List ℕ → ℕ → ℕ → ℕ → ℕ
row end history zero n d = 0
row end history (suc kept) n d =
    let p = place_before (places history) n in
    let r = record_at history p in
    pick (damaged end r d) 0 (suc (row end history kept p (depth_at r)))

-- ---- the records one by one, counted from the newest, 0, backwards

-- the place of record j, of r places and with next at n: the place before n, or the place of record j - 1 before that one
abbrev pub place_back : ℕ → ℕ → ℕ → ℕ
place_back r n zero = place_before r n
place_back r n (suc j) = place_back r (place_before r n) j

abbrev pub record_back : List ℕ → ℕ → ℕ → List ℕ
record_back history n j = record_at history (place_back (places history) n j)

-- the depth that record j is compared with: the present one, d, for the newest, and the one in the next newer record for each other
abbrev pub depth_beside : List ℕ → ℕ → ℕ → ℕ → ℕ
depth_beside history n d zero = d
depth_beside history n d (suc j) = depth_at (record_back history n j)

abbrev pub damaged_back : ℕ → List ℕ → ℕ → ℕ → ℕ → Bool
damaged_back end history n d j = damaged end (record_back history n j) (depth_beside history n d j)

-- the k newest records are an unbroken row of sound ones, and no further than the kept ones
pub record SoundRow (end : ℕ) (history : List ℕ) (kept n d k : ℕ) : Type 0 where
  pub most : k ≤ kept
  pub sound : (j : ℕ) → j < k → damaged_back end history n d j ≡ false

-- and no row is longer
pub record Longest (end : ℕ) (history : List ℕ) (kept n d k : ℕ) : Type 0 where
  pub row : SoundRow end history kept n d k
  pub longest : (k' : ℕ) → SoundRow end history kept n d k' → k' ≤ k

-- ---- THE CLAIM, proved in proofs/Rows.antt: what the function counts is the longest row

abbrev pub RowLongest : Type 0
RowLongest = (end : ℕ) (history : List ℕ) (kept n d : ℕ) → Longest end history kept n d (row end history kept n d)
