-- The lit spots of bytes counted, some after the other or in one number; and what replacing bytes of a picture by others does to its number.
use mathlib.Core.Path.{◌≡◌, refl, sym, ap, ap₂, ◌∙◌}
use mathlib.Core.List.{List}
use Prim.Native.Nat.{ℕ, zero, suc, ◌+◌, ◌*◌, ◌/◌, ◌%◌, ◌^◌, ◌≤◌, ◌<◌}
use native.Mathlib.Omega.{arith}
use native.Mathlib.Numerals.{add-one}
use lib.ListN.{length, get_or, take, drop}
use lib.Seq.{take-add, drop-drop}
use lib.Count.{ones, ones_cat}
use Rattle.rules.specs.Memory.{part, over}
use Rattle.rules.specs.Picture.{lit_spots}
use Rattle.rules.specs.Rows.{bytes_of, joined}
use Rattle.rules.proofs.Good.{Bytes}
use Rattle.rules.proofs.Parts.{over_take, over_drop, part_over_same, below_of, bytes_over}
use Rattle.rules.proofs.Turning.{bytes_length, bytes_below, byte_small, rows_back, row_is}
use Rattle.rules.proofs.Undo.{Outside}
use Rattle.rules.specs.Lit.{lit_in}
use Rattle.rules.proofs.ByChange.{lit_append, lit_outside}
use Rattle.picture.proofs.Sums.{ones_zero}
use Rattle.picture.proofs.PutRow.{part_one}

-- ---- some bytes after the other

-- n lit spots are counted in the i bytes from k on, and m in the j bytes behind those
pub lit_on : (l : List ℕ) (k i j n m : ℕ) → n ≡ lit_in (part l k i) → m ≡ lit_in (part l (k + i) j) → n + m ≡ lit_in (part l k (i + j))
lit_on l k i j n m e f =
    let rest = drop k l in
    ap₂ ◌+◌ e (f ∙ ap (λ (p : List ℕ). lit_in (take j p)) (sym (drop-drop i k l)))
    ∙ sym (ap lit_in (take-add i j rest) ∙ lit_append (take i rest) (part rest i j))

pub lit_one : (l : List ℕ) (k : ℕ) → k < length l → ones (get_or l k 0) ≡ lit_in (part l k 1)
unfolding lit_in
lit_one l k h = rw (part_one l k h) (omega arith)

-- in the number that some bytes make as many bits are set as in the bytes
pub ones_joined : (b : List ℕ) → ((i : ℕ) → get_or b i 0 < 256) → (k n : ℕ) → k + n ≤ length b → ones (joined b k n) ≡ lit_in (part b k n)
unfolding lit_in joined
ones_joined b small k zero h = ones_zero
ones_joined b small k (suc n) h =
    ones_cat 8 (joined b k n) (get_or b (k + n) 0) (small (k + n))
    ∙ rw add-one at (lit_on b k n 1 _ _ (ones_joined b small k n (omega arith)) (lit_one b (k + n) (omega arith)))

-- a row is the number that its bytes make
pub lit_row : (rows : List ℕ) → ((y : ℕ) → get_or rows y 0 < 2 ^ 64) → (k : ℕ) → k % 8 ≡ 0 → k < 8 * length rows
    → ones (get_or rows (k / 8) 0) ≡ lit_in (part (bytes_of rows) k 8)
lit_row rows small k e h =
    let at : 8 * (k / 8) ≡ k = omega arith in
    let back = rows_back rows (below_of rows (λ y l. small y)) in
    let is = row_is (bytes_of rows) (length rows) (bytes_length rows) (k / 8) (omega arith) in
    ap ones (ap (λ (l : List ℕ). get_or l (k / 8) 0) (sym back) ∙ is)
    ∙ rw at (ones_joined (bytes_of rows) (byte_small rows) k 8 (omega (arith, bytes_length rows)))

-- ---- bytes of a picture replaced

-- its number loses what the old bytes have, and gains what the new ones have
pub lit_over : (rows bytes : List ℕ) (k : ℕ) → length rows ≡ 32 → ((i : ℕ) → get_or bytes i 0 < 256) → k + length bytes ≤ 256
    → lit_spots (over (bytes_of rows) k bytes (length bytes)) + lit_in (part (bytes_of rows) k (length bytes)) ≡ lit_spots (bytes_of rows) + lit_in bytes
lit_over rows bytes k size small fits =
    let P = bytes_of rows in
    let n = length bytes in
    let g : Bytes 256 P = record { size = omega (arith, bytes_length rows); below = bytes_below rows } in
    let new : Bytes n bytes = record { size = refl; below = below_of bytes (λ i l. small i) } in
    let room : k + n ≤ length P = omega (arith, g.size) in
    let only : Outside k n P (over P k bytes n) = record { before = over_take P bytes k n room refl; behind = over_drop P bytes k n room refl } in
    lit_outside P (over P k bytes n) g (bytes_over g new k fits) k n only ∙ ap (λ (l : List ℕ). lit_spots P + lit_in l) (part_over_same P bytes k n room refl)
