-- A row of the picture replaced by eight bytes, and the row that they make.
use mathlib.Core.Path.{◌≡◌, refl, sym, ap, ap₂, ◌∙◌}
use mathlib.Core.List.{List, [], ◌∷◌}
use Prim.Native.Nat.{ℕ, zero, suc, ◌+◌, ◌*◌, ◌/◌, ◌%◌, ◌≤◌, ◌<◌}
use native.Mathlib.Nat.{zero-add, add-zero}
use native.Mathlib.Omega.{arith}
use lib.ListN.{get_or, set, take, drop, length, length-set}
use lib.Seq.{get_or-set_same, get_or-set_other, get_or-take, get_or-drop, take-take, drop-cons}
use Rattle.std.specs.Int.{w64, from_be_bytes}
use Rattle.rules.specs.Memory.{part, over}
use Rattle.rules.specs.Rows.{listed, eight_of, bytes_of, joined, rows_of}
use Rattle.rules.proofs.Parts.{put_back, part_length, same_take, same_drop, below_of, below_take, below_drop}
use Rattle.rules.proofs.Turning.{bytes_length, byte_at, bytes_back, row_part}

-- ---- one byte

pub part_one : (l : List ℕ) (i : ℕ) → i < length l → part l i 1 ≡ get_or l i 0 ∷ []
part_one l i h = ap (take 1) (drop-cons l i 0 h)

-- ---- eight bytes, and those of the row that they make

module _ (b : List ℕ) (i : ℕ) where
  joined_part : (n : ℕ) → n ≤ 8 → joined (part b i 8) 0 n ≡ joined b i n
  unfolding joined
  joined_part zero h = refl
  joined_part (suc n) h =
      ap₂ (λ (a x : ℕ). a * 256 + x) (joined_part n (omega arith)) (rw zero-add (get_or-take 8 (drop i b) n 0 (omega arith) ∙ get_or-drop i b n 0))

  eight_joined : ((k : ℕ) → get_or b k 0 < 256) → i + 8 ≤ length b → eight_of (joined b i 8) ≡ part b i 8
  unfolding rows_of bytes_of listed
  eight_joined small h =
      let size : length (part b i 8) ≡ 8 = part_length b i 8 h in
      let row : rows_of (part b i 8) ≡ joined b i 8 ∷ [] = rw size (rw (joined_part 8 (omega arith))) in
      let below = below_take (below_drop (below_of b (λ k l. small k)) i) 8 in
      rw row at (bytes_back (part b i 8) 1 below size)

-- ---- the library's number of eight bytes

be_joined : (l : List ℕ) → from_be_bytes w64 l ≡ joined l 0 8
unfolding joined
be_joined l = omega arith

pub row_of : (b : List ℕ) (i : ℕ) → from_be_bytes w64 (part b i 8) ≡ joined b i 8
row_of b i = be_joined (part b i 8) ∙ joined_part b i 8 (omega arith)

-- ---- a row replaced

module _ (rows : List ℕ) (y n : ℕ) (h : y < length rows) where
  abbrev old : List ℕ
  old = bytes_of rows

  abbrev new : List ℕ
  new = bytes_of (set rows y n)

  other_row : (i : ℕ) → (i / 8 ≡ y → ⊥) → get_or old i 0 ≡ get_or new i 0
  other_row i ne = byte_at rows i ∙ sym (byte_at (set rows y n) i ∙ rw (get_or-set_other rows y (i / 8) n 0 ne))

  its_bytes : part new (8 * y) 8 ≡ eight_of n
  its_bytes =
      sym (take-take 8 8 (drop (8 * y) new) (omega arith)) ∙ sym (row_part (set rows y n) y 1 0 (omega arith) (simp length-set (omega arith)))
      ∙ rw (add-zero, get_or-set_same rows y n 0 h)

  eight_put : bytes_of (set rows y n) ≡ over (bytes_of rows) (8 * y) (eight_of n) 8
  eight_put =
      let same : length old ≡ length new = simp (bytes_length, length-set) in
      sym (put_back old new (8 * y) 8 (same_take (8 * y) old new same (λ i l m. other_row i (λ e. omega arith)))
      (same_drop (8 * y + 8) old new same (λ i l m. other_row i (λ e. omega arith)))) ∙ rw its_bytes

pub row_put : (rows b : List ℕ) (k i : ℕ) → k % 8 ≡ 0 → k < 8 * length rows → ((j : ℕ) → get_or b j 0 < 256) → i + 8 ≤ length b
    → bytes_of (set rows (k / 8) (joined b i 8)) ≡ over (bytes_of rows) k (part b i 8) 8
row_put rows b k i e h small room =
    let at : 8 * (k / 8) ≡ k = omega arith in
    eight_put rows (k / 8) (joined b i 8) (omega arith) ∙ rw (at, eight_joined b i small room)
