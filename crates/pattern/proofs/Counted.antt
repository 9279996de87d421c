-- What a pattern meets and shows, row by row: all that it meets is what goes dark, all that it shows is what goes dark or lit, and only its
-- own rows count.
use mathlib.Core.Path.{◌≡◌, refl, sym, ap, ap₂, ◌∙◌}
use mathlib.Core.List.{List}
use Prim.Native.Nat.{ℕ, ◌+◌, ◌-◌, ◌*◌, ◌^◌, ◌≤◌, ◌<◌, min}
use native.Mathlib.Nat.{lt_of_le_of_lt, div-le_self, zero-add}
use native.Mathlib.Omega.{arith}
use lib.ListN.{get_or, length}
use lib.Bits.{bit_and, and_le_r, and_zero_r}
use lib.Count.{ones}
use lib.Dec.{leb, lit<}
use Rattle.rules.specs.Picture.{spot, shown, darkened, lightened}
use Rattle.rules.specs.Rows.{bytes_of}
use Rattle.rules.proofs.Choices.{choice}
use Rattle.picture.specs.Sums.{summed, between}
use Rattle.picture.proofs.RowSpots.{spot_is}
use Rattle.picture.proofs.Sums.{summed_le, summed_on, summed_skip, sum_plus, sum_rows, ones_zero}
use Rattle.pattern.specs.Masks.{mask_of, mask_at, met_at, shows_at}
use Rattle.pattern.proofs.Bits.{bit_and_law, ones_and}
use Rattle.pattern.proofs.Shown.{mask_above, mask_beneath, shown_is}

mask_below : (p column : ℕ) → p < 256 → mask_of p column < 2 ^ 64
mask_below p column h = lt_of_le_of_lt (div-le_self (p * 2 ^ 56) (2 ^ column)) (omega arith)

module _ (pattern : List ℕ) (column row : ℕ) where
  module _ (small : (k : ℕ) → get_or pattern k 0 < 256) where
    pub mask_fits : (y : ℕ) → mask_at pattern column row y < 2 ^ 64
    unfolding mask_at
    mask_fits y = choice (λ (m : ℕ). m < 2 ^ 64) (leb row y) (mask_below (get_or pattern (y - row) 0) column (small (y - row))) (lit< tt)

    dark_is : (rows : List ℕ) → darkened pattern column row (bytes_of rows) ≡ summed (met_at pattern column row rows) 32
    unfolding darkened
    dark_is rows =
        sum_rows _ (λ y. bit_and (get_or rows y 0) (mask_at pattern column row y)) (λ y. lt_of_le_of_lt (and_le_r (get_or rows y 0) _) (mask_fits y)) λ x y h l.
        ap₂ min (spot_is rows x y h) (shown_is pattern column row small x y h) ∙ sym (bit_and_law (63 - x) (get_or rows y 0) (mask_at pattern column row y))

    -- a spot that is shown goes lit or dark
    all_is : (P : List ℕ) → lightened pattern column row P + darkened pattern column row P ≡ summed (shows_at pattern column row) 32
    unfolding lightened darkened
    all_is P =
        let s = shown pattern column row in
        sum_plus (λ x y. s x y - spot P x y) (λ x y. min (spot P x y) (s x y)) s (λ x y. omega arith) 2048 0
        ∙ sum_rows s (mask_at pattern column row) mask_fits (λ x y h l. shown_is pattern column row small x y h)

    -- what the pattern meets is among what it shows
    pub met_shown : (rows : List ℕ) (from to : ℕ) → between (met_at pattern column row rows) from to ≤ between (shows_at pattern column row) from to
    met_shown rows from to = summed_le _ _ (λ k. ones_and 64 (get_or rows (from + k) 0) _ (mask_fits (from + k))) (to - from)

  -- a sum over rows to which one adds nothing where the pattern shows nothing
  module _ (f : ℕ → ℕ) (none : (y : ℕ) → mask_at pattern column row y ≡ 0 → f y ≡ 0) where
    above : 0 ≡ summed f row
    unfolding summed
    above = sym (summed_skip f 0 row (omega arith) (λ y a b. none y (mask_above pattern column row y b)))

    -- where no row of the pattern is left beneath e
    whole : (e : ℕ) → e ≤ 32 → ((y : ℕ) → e ≤ y → y < 32 → row + length pattern ≤ y) → summed f e ≡ summed f 32
    whole e h beneath = sym (summed_skip f e 32 h (λ y l m. none y (mask_beneath pattern column row y (beneath y l m))))

  -- a sum that is none above the pattern is one from its first row on
  begun : (f : ℕ → ℕ) (end n : ℕ) → row ≤ end → 0 ≡ summed f row → n ≡ between f row end → n ≡ summed f end
  begun f end n low none is = rw zero-add at (summed_on f f row end 0 n low (λ y h. refl) none is)

  module _ (rows : List ℕ) where
    meets_none : (y : ℕ) → mask_at pattern column row y ≡ 0 → met_at pattern column row rows y ≡ 0
    meets_none y e = rw (e, and_zero_r, ones_zero)

    shows_none : (y : ℕ) → mask_at pattern column row y ≡ 0 → shows_at pattern column row y ≡ 0
    shows_none y e = rw e ones_zero

    none_above : (0 ≡ summed (met_at pattern column row rows) row) × (0 ≡ summed (shows_at pattern column row) row)
    none_above = (above _ meets_none, above _ shows_none)

    all_counted : ((k : ℕ) → get_or pattern k 0 < 256) → (e dark all : ℕ) → e ≤ 32 → ((y : ℕ) → e ≤ y → y < 32 → row + length pattern ≤ y)
        → dark ≡ summed (met_at pattern column row rows) e → all ≡ summed (shows_at pattern column row) e
        → (dark ≡ darkened pattern column row (bytes_of rows))
        × (all ≡ lightened pattern column row (bytes_of rows) + darkened pattern column row (bytes_of rows))
    all_counted small e dark all h beneath met shows = (
      met ∙ whole _ meets_none e h beneath ∙ sym (dark_is small rows),
      shows ∙ whole _ shows_none e h beneath ∙ sym (all_is small (bytes_of rows)),
    )

    -- counted from the pattern's first row on
    pub once_counted : ((k : ℕ) → get_or pattern k 0 < 256) → (end dark all : ℕ) → row ≤ end → end ≤ 32
        → ((y : ℕ) → end ≤ y → y < 32 → row + length pattern ≤ y)
        → dark ≡ between (met_at pattern column row rows) row end → all ≡ between (shows_at pattern column row) row end
        → (dark ≡ darkened pattern column row (bytes_of rows))
        × (all ≡ lightened pattern column row (bytes_of rows) + darkened pattern column row (bytes_of rows))
    once_counted small end dark all low inside beneath met shows =
        all_counted small end dark all inside beneath (begun _ end dark low none_above.0 met) (begun _ end all low none_above.1 shows)

    -- the same in two parts, of which the lower one stood as it stood while the upper one was made
    pub both_counted : ((k : ℕ) → get_or pattern k 0 < 256) → (after : List ℕ) (middle end dark dark' all all' : ℕ) → row ≤ middle → middle ≤ end → end ≤ 32
        → ((y : ℕ) → end ≤ y → y < 32 → row + length pattern ≤ y) → ((y : ℕ) → middle ≤ y → get_or after y 0 ≡ get_or rows y 0)
        → dark ≡ between (met_at pattern column row rows) row middle → dark' ≡ between (met_at pattern column row after) middle end
        → all ≡ between (shows_at pattern column row) row middle → all' ≡ between (shows_at pattern column row) middle end
        → (dark + dark' ≡ darkened pattern column row (bytes_of rows))
        × (all + all' ≡ lightened pattern column row (bytes_of rows) + darkened pattern column row (bytes_of rows))
    both_counted small after middle end dark dark' all all' up low inside beneath same met met' shows shows' =
        let m = met_at pattern column row rows in
        let s = shows_at pattern column row in
        let stands : (y : ℕ) → middle ≤ y → met_at pattern column row after y ≡ m y =
        λ y h. ap (λ (n : ℕ). ones (bit_and n (mask_at pattern column row y))) (same y h) in
        all_counted small end _ _ inside beneath
        (summed_on m (met_at pattern column row after) middle end dark dark' low stands (begun m middle dark up none_above.0 met) met')
        (summed_on s s middle end all all' low (λ y h. refl) (begun s middle all up none_above.1 shows) shows')
