-- The lit spots of a picture counted row by row, from the first on.
use mathlib.Core.Path.{◌≡◌, refl, sym, ap, ap₂, ◌∙◌}
use mathlib.Core.List.{List}
use Prim.Native.Nat.{ℕ, ◌+◌, ◌*◌, ◌^◌, ◌≤◌, ◌<◌}
use native.Mathlib.Omega.{arith}
use native.Mathlib.Numerals.{add-one}
use lib.ListN.{length, get_or}
use lib.Seq.{take-length}
use lib.Count.{ones, ones-le}
use Rattle.std.specs.List.{sum_by}
use Rattle.rules.specs.Picture.{spot, lit_spots}
use Rattle.rules.specs.Rows.{bytes_of}
use Rattle.rules.proofs.Counted.{lit_sum}
use Rattle.picture.specs.Sums.{summed}
use Rattle.picture.proofs.RowSpots.{spot_is}
use Rattle.picture.proofs.Sums.{sum_rows, summed_list, summed_few}

lit_rows : (rows : List ℕ) → ((y : ℕ) → get_or rows y 0 < 2 ^ 64) → lit_spots (bytes_of rows) ≡ summed (λ k. ones (get_or rows k 0)) 32
lit_rows rows small = lit_sum (bytes_of rows) ∙ sum_rows (spot (bytes_of rows)) (λ k. get_or rows k 0) small (λ x y h l. spot_is rows x y h)

-- spots are counted in the rows above y, f k of them in row k
pub record CountedAbove (f : ℕ → ℕ) (y n : ℕ) : Type 0 where
  pub is : n ≡ summed f y
  pub few : n ≤ 64 * y

module _ (f : ℕ → ℕ) where
  pub no_row : CountedAbove f 0 0
  unfolding summed
  no_row = record { is = refl; few = omega arith }

  pub row_more : (y n m : ℕ) → CountedAbove f y n → m ≡ f y → m ≤ 64 → CountedAbove f (y + 1) (n + m)
  unfolding summed
  row_more y n m l e h = record { is = rw add-one (ap₂ ◌+◌ l.is e); few = omega (arith, l.few) }

pub rows_counted : (rows : List ℕ) → ((y : ℕ) → get_or rows y 0 < 2 ^ 64) → length rows ≡ 32
    → (sum_by ones rows ≡ lit_spots (bytes_of rows)) × (sum_by ones rows ≤ 2048)
rows_counted rows small size =
    let is : sum_by ones rows ≡ summed (λ k. ones (get_or rows k 0)) 32 =
    ap (sum_by ones) (sym (rw size at (take-length rows))) ∙ summed_list ones rows 32 (omega arith) in
    (is ∙ sym (lit_rows rows small), rw is (summed_few _ 64 (λ k. ones-le 64 (get_or rows k 0) (small k)) 32))
