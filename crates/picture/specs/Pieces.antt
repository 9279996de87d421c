-- Bytes of the picture in three pieces, and what is counted of some.
use Rattle.std.specs.Prelude.{◌≡◌, List, ◌++◌, ℕ, ◌+◌, ◌*◌, ◌%◌, ◌≤◌, ◌<◌, length}
use Rattle.rules.specs.Memory.{part}
use Rattle.rules.specs.Rows.{bytes_of}
use Rattle.rules.specs.Lit.{lit_in}
use Rattle.picture.specs.declared.Spots.{Spots}

-- bytes from byte k of the picture on, some in front, those of whole rows, and some behind
pub record Pieces (k : ℕ) (bytes front whole back : List ℕ) : Type 0 where
  pub all : bytes ≡ front ++ (whole ++ back)
  pub begins : 0 < length whole → (k + length front) % 8 ≡ 0
  pub ends : length whole % 8 ≡ 0

-- the lit spots of the rows' bytes from k on that have the places of some bytes, and of those bytes
pub record Lit (rows : List ℕ) (k : ℕ) (bytes : List ℕ) (s : Spots) : Type 0 where
  pub dark : s.dark ≡ lit_in (part (bytes_of rows) k (length bytes))
  pub lit : s.lit ≡ lit_in bytes
  pub few : (s.dark ≤ 8 * length bytes) × (s.lit ≤ 8 * length bytes)
