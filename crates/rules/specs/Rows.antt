-- Request Q-10: the working picture as rows. A row is a number of 64 bits whose highest bit is the leftmost spot. What rows mean is said by
-- the bytes that they are: the picture rules stay as they stand, and every call on rows is the old one seen through this turning.
use Rattle.std.specs.Prelude.{◌≡◌, ◌&&◌, List, [], ◌∷◌, ℕ, zero, suc, ◌+◌, ◌-◌, ◌*◌, ◌/◌, ◌%◌, ◌^◌, get_or, length, T}
use Rattle.rules.specs.Number.{same}
use Rattle.rules.specs.Typed.{Below}

-- f 0, f 1 and so on, n of them
unfoldable pub listed : (ℕ → ℕ) → ℕ → List ℕ
listed f zero = []
listed f (suc n) = f 0 ∷ listed (λ k. f (suc k)) n

-- byte j of a row, counted from the highest
abbrev pub byte_in : ℕ → ℕ → ℕ
byte_in j row = row / 2 ^ (56 - 8 * j) % 256

-- its eight bytes, the highest first
abbrev pub eight_of : ℕ → List ℕ
eight_of row = listed (λ j. byte_in j row) 8

-- those of each row, one row after the other
unfoldable pub bytes_of : List ℕ → List ℕ
bytes_of rows = listed (λ k. byte_in (k % 8) (get_or rows (k / 8) 0)) (8 * length rows)

-- the number that the n bytes from k on make, the first one highest
unfoldable pub joined : List ℕ → ℕ → ℕ → ℕ
joined bytes k zero = 0
joined bytes k (suc n) = joined bytes k n * 256 + get_or bytes (k + n) 0

-- every eight bytes as a row
unfoldable pub rows_of : List ℕ → List ℕ
rows_of bytes = listed (λ y. joined bytes (8 * y) 8) (length bytes / 8)

-- ---- a worked case, computed: the leftmost and the rightmost spot of a row, and the spot right of the leftmost in the row beneath it

abbrev two_rows : List ℕ
two_rows = 0x8000000000000001 ∷ 0x4000000000000000 ∷ []

abbrev their_bytes : List ℕ
their_bytes = 0x80 ∷ 0 ∷ 0 ∷ 0 ∷ 0 ∷ 0 ∷ 0 ∷ 0x01 ∷ 0x40 ∷ 0 ∷ 0 ∷ 0 ∷ 0 ∷ 0 ∷ 0 ∷ 0 ∷ []

turned : T (same (bytes_of two_rows) their_bytes && same (rows_of their_bytes) two_rows)
unfolding listed bytes_of joined rows_of
turned = tt

-- ---- THE CLAIMS, proved in proofs/Turning.antt

-- a row is eight bytes
abbrev pub EightEach : Type 0
EightEach = (rows : List ℕ) → length (bytes_of rows) ≡ 8 * length rows

-- rows turned to bytes and back are the rows
abbrev pub RowsBack : Type 0
RowsBack = (rows : List ℕ) → Below (2 ^ 64) rows → rows_of (bytes_of rows) ≡ rows

-- bytes turned to rows and back are the bytes
abbrev pub BytesBack : Type 0
BytesBack = (bytes : List ℕ) (n : ℕ) → Below 256 bytes → length bytes ≡ 8 * n → bytes_of (rows_of bytes) ≡ bytes

-- so rows with the same bytes are the same rows
abbrev pub OneForm : Type 0
OneForm = (r s : List ℕ) → Below (2 ^ 64) r → Below (2 ^ 64) s → bytes_of r ≡ bytes_of s → r ≡ s
