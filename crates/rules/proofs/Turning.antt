-- Rows turned to bytes and back: nothing is lost either way.
use mathlib.Core.Path.{◌≡◌, refl, sym, ap, ap₂, ◌∙◌}
use mathlib.Core.List.{List}
use Prim.Native.Nat.{ℕ, zero, suc, ◌+◌, ◌-◌, ◌*◌, ◌/◌, ◌%◌, ◌^◌, ◌≤◌, ◌<◌}
use native.Mathlib.Nat.{mod-lt, zero-lt-suc, zero-div, not-suc-le-zero, lt_of_lt_of_le}
use native.Mathlib.Decide.{dec_lt, ℕ_discrete}
use native.Mathlib.Omega.{arith}
use native.Mathlib.Numerals.{add-one}
use lib.ListN.{get_or, drop, length, replicate, get_or-eq_default}
use lib.Seq.{ext_get_or, get_or-take, get_or-drop, take_all}
use lib.Dec.{eqb, lit<, lit≤}
use lib.Bits.{bit_or, bit_xor, or_shifted, xor_shr, xor_mod}
use lib.Pow.{shr-shr, shl_exact, pow-add, pow_mono}
use borrow.Author.Count.{below_more}
use borrow.Author.Tests.{ne_eqb}
use Rattle.rules.specs.Memory.{part, over}
use Rattle.rules.proofs.Parts.{part_length, below_of, below_get}
use Rattle.rules.proofs.Laid.{over_all}
use Rattle.rules.specs.Typed.{Below}
use Rattle.rules.specs.Rows.{listed, byte_in, eight_of, bytes_of, joined, rows_of, EightEach, RowsBack, BytesBack, OneForm}

-- ---- a list by its elements

pub listed_length : (f : ℕ → ℕ) (n : ℕ) → length (listed f n) ≡ n
unfolding listed
listed_length f zero = refl
listed_length f (suc n) = ap suc (listed_length (λ k. f (suc k)) n)

pub listed_at : (f : ℕ → ℕ) (n k : ℕ) → k < n → get_or (listed f n) k 0 ≡ f k
unfolding listed
listed_at f zero k h = absurd (not-suc-le-zero h)
listed_at f (suc n) zero h = refl
listed_at f (suc n) (suc k) h = listed_at (λ i. f (suc i)) n k (omega arith)

-- ---- the bytes of rows

pub bytes_length : (rows : List ℕ) → length (bytes_of rows) ≡ 8 * length rows
unfolding bytes_of
bytes_length rows = listed_length _ (8 * length rows)

pub byte_at : (rows : List ℕ) (k : ℕ) → get_or (bytes_of rows) k 0 ≡ byte_in (k % 8) (get_or rows (k / 8) 0)
unfolding bytes_of
byte_at rows k = by (dec_lt k (8 * length rows))
  where
    by : Dec (k < 8 * length rows) → get_or (bytes_of rows) k 0 ≡ byte_in (k % 8) (get_or rows (k / 8) 0)
    by (yes h) = listed_at _ (8 * length rows) k h
    by (no h) =
        get_or-eq_default (bytes_of rows) 0 (omega (arith, bytes_length rows))
        ∙ sym (rw (get_or-eq_default rows 0 {n = k / 8} (omega arith), zero-div))

pub byte_small : (rows : List ℕ) (k : ℕ) → get_or (bytes_of rows) k 0 < 256
byte_small rows k = rw byte_at (mod-lt _ (zero-lt-suc 255))

pub byte_xor : (j m n : ℕ) → byte_in j (bit_xor m n) ≡ bit_xor (byte_in j m) (byte_in j n)
byte_xor j m n = rw (xor_shr m n (56 - 8 * j)) (xor_mod (m / 2 ^ (56 - 8 * j)) (n / 2 ^ (56 - 8 * j)) 8)

-- ---- eight bytes as a number

module _ (b : List ℕ) (k : ℕ) where
  -- byte j of the number is byte j of those that it is made of
  digit : ((i : ℕ) → get_or b i 0 < 256) → (n j : ℕ) → j < n → joined b k n / 2 ^ (8 * (n - 1 - j)) % 256 ≡ get_or b (k + j) 0
  unfolding joined
  digit small zero j h = absurd (not-suc-le-zero h)
  digit small (suc n) j h =
      below_more (λ (i : ℕ). joined b k (suc n) / 2 ^ (8 * (suc n - 1 - i)) % 256 ≡ get_or b (k + i) 0) n
      (λ i l.
      let up : 8 * (suc n - 1 - i) ≡ 8 + 8 * (n - 1 - i) = omega arith in
      let rest : joined b k (suc n) / 2 ^ 8 ≡ joined b k n = omega (arith, small (k + n)) in
      rw (up, ← shr-shr (joined b k (suc n)) 8 (8 * (n - 1 - i)), rest) (digit small n i l))
      (let last : 8 * (suc n - 1 - n) ≡ 0 = omega arith in rw last (omega (arith, small (k + n))))
      j (omega arith)

  -- the number whose bytes they are
  whole : (n a : ℕ) → a < 2 ^ (8 * n) → ((j : ℕ) → j < n → get_or b (k + j) 0 ≡ a / 2 ^ (8 * (n - 1 - j)) % 256) → joined b k n ≡ a
  unfolding joined
  whole zero a h e = omega arith
  whole (suc n) a h e =
      let wide : 2 ^ (8 * suc n) ≡ 2 ^ (8 * n) * 2 ^ 8 = ap (λ (i : ℕ). 2 ^ i) (omega arith) ∙ pow-add 2 (8 * n) 8 in
      let last : 8 * (suc n - 1 - n) ≡ 0 = omega arith in
      let low : get_or b (k + n) 0 ≡ a % 256 = e n (omega arith) ∙ rw last (omega arith) in
      let high : joined b k n ≡ a / 2 ^ 8 =
      whole n (a / 2 ^ 8) (omega (arith, wide)) λ j l.
      let up : 8 * (suc n - 1 - j) ≡ 8 + 8 * (n - 1 - j) = omega arith in
      e j (omega arith) ∙ rw (up, shr-shr a 8 (8 * (n - 1 - j))) in
      rw (low, high) (omega arith)

-- a byte put beneath seven others
pub beside : (n b : ℕ) → n < 2 ^ 56 → b < 256 → bit_or (n * 2 ^ 8 % 2 ^ 64) b ≡ n * 256 + b
beside n b h small = rw (shl_exact 56 8 64 h (lit≤ tt)) (or_shifted n 8 b small)

-- one byte more
module _ (b : List ℕ) (k : ℕ) (small : (i : ℕ) → get_or b i 0 < 256) where
  joined_small : (n : ℕ) → joined b k n < 2 ^ (8 * n)
  unfolding joined
  joined_small zero = lit< tt
  joined_small (suc n) =
      let wide : 2 ^ (8 * suc n) ≡ 2 ^ (8 * n) * 2 ^ 8 = ap (λ (i : ℕ). 2 ^ i) (omega arith) ∙ pow-add 2 (8 * n) 8 in
      omega (arith, wide, joined_small n, small (k + n))

  pub joined_more : (n a x : ℕ) → n < 8 → a ≡ joined b k n → x ≡ get_or b (k + n) 0 → bit_or (a * 2 ^ 8 % 2 ^ 64) x ≡ joined b k (n + 1)
  unfolding joined
  joined_more n a x h e is =
      let room : joined b k n < 2 ^ 56 = lt_of_lt_of_le (joined_small n) (pow_mono {i = 8 * n} {j = 56} (omega arith)) in
      rw (e, is, add-one n) (beside (joined b k n) (get_or b (k + n) 0) room (small (k + n)))

-- ---- THE TURNING

module _ (rows : List ℕ) (small : (y : ℕ) → get_or rows y 0 < 2 ^ 64) where
  rows_same : rows_of (bytes_of rows) ≡ rows
  unfolding rows_of
  rows_same =
      let size : length (bytes_of rows) / 8 ≡ length rows = omega (arith, bytes_length rows) in
      ext_get_or 0 _ _ (listed_length _ _ ∙ size) λ y l.
      listed_at _ (length (bytes_of rows) / 8) y (omega (arith, l, listed_length (λ y. joined (bytes_of rows) (8 * y) 8) (length (bytes_of rows) / 8)))
      ∙ whole (bytes_of rows) (8 * y) 8 (get_or rows y 0) (small y) λ j h.
      byte_at rows (8 * y + j) ∙ ap₂ (λ (i z : ℕ). get_or rows z 0 / 2 ^ i % 256) (omega arith) (omega arith)

module _ (bytes : List ℕ) (n : ℕ) (size : length bytes ≡ 8 * n) where
  pub rows_length : length (rows_of bytes) ≡ n
  unfolding rows_of
  rows_length = listed_length _ _ ∙ omega arith

  pub row_is : (y : ℕ) → y < n → get_or (rows_of bytes) y 0 ≡ joined bytes (8 * y) 8
  unfolding rows_of
  row_is y h = listed_at (λ y. joined bytes (8 * y) 8) (length bytes / 8) y (omega arith)

  bytes_same : ((k : ℕ) → get_or bytes k 0 < 256) → bytes_of (rows_of bytes) ≡ bytes
  bytes_same small =
      let sized : length (bytes_of (rows_of bytes)) ≡ length bytes = omega (arith, bytes_length (rows_of bytes), rows_length) in
      ext_get_or 0 _ _ sized λ k l.
      let at : 8 * (k / 8) + k % 8 ≡ k = omega arith in
      byte_at (rows_of bytes) k ∙ rw (row_is (k / 8) (omega arith))
      (ap (λ (i : ℕ). joined bytes (8 * (k / 8)) 8 / 2 ^ i % 256) (omega arith) ∙ digit bytes (8 * (k / 8)) small 8 (k % 8) (omega arith) ∙ rw at)

-- ---- the claims

pub eight_each : EightEach
eight_each = bytes_length

pub rows_back : RowsBack
rows_back rows b = rows_same rows (below_get (omega arith) b)

pub bytes_back : BytesBack
bytes_back bytes n b size = bytes_same bytes n size (below_get (omega arith) b)

pub one_form : OneForm
one_form r s b d e = sym (rows_back r b) ∙ ap rows_of e ∙ rows_back s d

-- ---- parts of the bytes

-- byte j of the i-th row from row `from` on
pub part_at : (rows : List ℕ) (from count i j : ℕ) → i < count → j < 8
    → get_or (part (bytes_of rows) (8 * from) (8 * count)) (8 * i + j) 0 ≡ byte_in j (get_or rows (from + i) 0)
part_at rows from count i j h l =
    let k : 8 * from + (8 * i + j) ≡ 8 * (from + i) + j = omega arith in
    let low : (8 * (from + i) + j) % 8 ≡ j = omega arith in
    let high : (8 * (from + i) + j) / 8 ≡ from + i = omega arith in
    get_or-take (8 * count) (drop (8 * from) (bytes_of rows)) (8 * i + j) 0 (omega arith) ∙ get_or-drop (8 * from) (bytes_of rows) (8 * i + j) 0
    ∙ byte_at rows (8 * from + (8 * i + j)) ∙ rw (k, low, high)

pub part_sized : (rows : List ℕ) (from count : ℕ) → from + count ≤ length rows → length (part (bytes_of rows) (8 * from) (8 * count)) ≡ 8 * count
part_sized rows from count h = part_length (bytes_of rows) (8 * from) (8 * count) (omega (arith, bytes_length rows))

-- the eight bytes of the i-th of them
pub row_part : (rows : List ℕ) (from count i : ℕ) → i < count → from + count ≤ length rows
    → eight_of (get_or rows (from + i) 0) ≡ part (part (bytes_of rows) (8 * from) (8 * count)) (8 * i) 8
row_part rows from count i h room =
    let bytes = part (bytes_of rows) (8 * from) (8 * count) in
    let sized : length (part bytes (8 * i) 8) ≡ 8 = part_length bytes (8 * i) 8 (omega (arith, part_sized rows from count room)) in
    let eight = listed_length (λ j. byte_in j (get_or rows (from + i) 0)) 8 in
    ext_get_or 0 _ _ (eight ∙ sym sized) λ j l.
    let below : j < 8 = omega (arith, eight) in
    listed_at _ 8 j below
    ∙ sym (get_or-take 8 (drop (8 * i) bytes) j 0 below ∙ get_or-drop (8 * i) bytes j 0 ∙ part_at rows from count i j h below)

-- the bytes of all rows, laid over a picture
pub over_picture : (rows p : List ℕ) → length rows ≡ 32 → length p ≡ 256 → over p 0 (part (bytes_of rows) 0 256) 256 ≡ bytes_of rows
over_picture rows p h l =
    let size : length (bytes_of rows) ≡ 256 = omega (arith, bytes_length rows) in
    rw (take_all 256 (bytes_of rows) (omega arith)) (rw size at (over_all p (bytes_of rows) (omega arith)))

pub bytes_dark : bytes_of (replicate 32 0) ≡ replicate 256 0
unfolding bytes_of listed
bytes_dark = refl

-- ---- 32 rows are a picture's 256 bytes

pub bytes_below : (rows : List ℕ) → Below 256 (bytes_of rows)
bytes_below rows = below_of (bytes_of rows) (λ k l. byte_small rows k)

pub picture_rows : (rows : List ℕ) → length (bytes_of rows) ≡ 256 → length rows ≡ 32
picture_rows rows e = omega (arith, e, bytes_length rows)

pub sized_rows : (rows : List ℕ) → eqb (length (bytes_of rows)) 256 ≡ eqb (length rows) 32
sized_rows rows = by (ℕ_discrete (length rows) 32)
  where
    by : Dec (length rows ≡ 32) → eqb (length (bytes_of rows)) 256 ≡ eqb (length rows) 32
    by (yes e) = rw (bytes_length rows, e)
    by (no ne) = ne_eqb (length (bytes_of rows)) 256 (λ e. ne (omega (arith, bytes_length rows))) ∙ sym (ne_eqb (length rows) 32 ne)
