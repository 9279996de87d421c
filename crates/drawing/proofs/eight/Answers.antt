-- The invariant: the rows passed are kept and turned over, and both numbers have their spots.
use mathlib.Core.Path.{◌≡◌, refl, ap, ap₂, ◌∙◌}
use Prim.Native.Nat.{ℕ, ◌+◌, ◌-◌, ◌*◌, ◌^◌, ◌≤◌, ◌<◌}
use native.Mathlib.Nat.{le_refl, lt_of_le_of_lt}
use native.Mathlib.Omega.{arith}
use lib.Bits.{bit_and, and_le_r}
use lib.Count.{ones}
use lib.ListN.{get_or}
use Rattle.rules.specs.Rows.{eight_of}
use Rattle.rules.proofs.Laid.{none, more_part, laid}
use Rattle.rules.proofs.Turning.{part_sized, row_part}
use Rattle.picture.specs.Sums.{between}
use Rattle.pattern.specs.Masks.{mask_of, met_at, shows_at}
use Rattle.pattern.proofs.Counted.{met_shown}
use Rattle.pattern.proofs.Shown.{mask_is}
use Rattle.pattern.proofs.Gathered.{Columns, mask_columns, and_columns, nothing, one_more, shown_few}
use Rattle.drawing.proofs.NextRow.{next_row}
use Rattle.drawing.proofs.Turned.{none_turned, one_turned}
use Rattle.drawing.proofs.eight.Goals.{After-ones_in}
use Rattle.drawing.proofs.eight.Goals as goal

pub loop-y-init : goal.loop-y-init
loop-y-init c =
    let a = c.args in
    let nought : 8 * (a.from - a.from) ≡ 0 = omega arith in (
      nothing a.column _ a.from,
      nothing a.column _ a.from,
      none_turned _ _ _ _ _,
      rw nought (none _ _ _ _ (part_sized a.rows.now a.from (a.to - a.from) (omega arith)) (omega arith)),
    )

pub loop-y-preserved : goal.loop-y-preserved
loop-y-preserved c =
    let l = c.loop-y in
    let a = c.args in
    let n = next_row a.row a.from a.to l.y c.requires.in_picture.1 c.requires.in_picture.2 c.requires.from_le_to.1 (omega arith) c.loop-y-test.true in
    let p = get_or a.pattern.now (l.y - a.row) 0 in
    let small : p < 256 = omega (arith, c.type_inv.pattern (l.y - a.row)) in
    let mask = c.mask_of-mask.result in
    let row = get_or l.rows l.y 0 in
    let stands : row ≡ get_or a.rows.now l.y 0 = l.invariant.2.beneath l.y (le_refl l.y) in
    let masked = c.mask_of-mask.ensures ∙ ap (λ (m : ℕ). mask_of m a.column) c.from.ensures in
    let is = masked ∙ mask_is a.pattern.now a.column a.row l.y p n.under refl in
    let fits : mask < 2 ^ 64 = omega arith in
    let columns : Columns a.column mask = rw masked (mask_columns p a.column small c.requires.in_picture.0) in
    let bytes = rw n.there at (row_part a.rows.now a.from (a.to - a.from) (l.y - a.from) n.among (rw c.told-rows n.whole)) in (
      rw c.gather-met.ensures
          (one_more a.column _ a.from l.y l.met (bit_and row mask) l.invariant.0 (omega arith) n.room
          (lt_of_le_of_lt (and_le_r row mask) fits) (and_columns row mask a.column columns) (ap₂ (λ (r m : ℕ). ones (bit_and r m)) stands is)),
      rw c.gather-shown.ensures
          (one_more a.column _ a.from l.y l.shown mask l.invariant.1 (omega arith) n.room fits columns (ap ones is)),
      one_turned a.pattern.now a.column a.row a.from a.rows.now l.y mask l.rows l.invariant.2 (omega arith) (rw c.told-rows n.inside) is,
      rw c.lay_eight.ensures
          (rw n.further at (more_part _ _ _ _ l.place _ (8 * (l.y - a.from)) 8 l.invariant.3 n.fits (ap eight_of stands ∙ bytes))),
    )

pub shape_of-place : goal.shape_of-place
shape_of-place c = c.loop-y.invariant.3.same

-- both counts, and that no more is met than shown
counted : (c : After-ones_in) → let a = c.args in
    (c.ones_in-dark.result ≡ between (met_at a.pattern.now a.column a.row a.rows.now) a.from a.to)
    × (c.ones_in.result ≡ between (shows_at a.pattern.now a.column a.row) a.from a.to) × (c.ones_in-dark.result ≤ c.ones_in.result)
counted c =
    let l = c.loop-y in
    let a = c.args in
    let all : l.y ≡ a.to = omega arith in
    let small : (k : ℕ) → get_or a.pattern.now k 0 < 256 = λ k. omega (arith, c.type_inv.pattern k) in
    let met = c.ones_in-dark.ensures.0 ∙ rw all at l.invariant.0.counted in
    let shows = c.ones_in.ensures.0 ∙ rw all at l.invariant.1.counted in
    (met, shows, rw (met, shows) (met_shown a.pattern.now a.column a.row small a.rows.now a.from a.to))

pub overflow_sub-result : goal.overflow_sub-result
overflow_sub-result c = (counted c).2

pub returns : goal.returns
returns c =
    let l = c.loop-y in
    let a = c.args in
    let all : l.y ≡ a.to = omega arith in
    let small : (k : ℕ) → get_or a.pattern.now k 0 < 256 = λ k. omega (arith, c.type_inv.pattern k) in
    let (met, shows, fits) = counted c in
    let both : c.ones_in-dark.result + (c.ones_in.result - c.ones_in-dark.result) ≡ c.ones_in.result = omega arith in record {
      turned = rw all at l.invariant.2;
      place_after = laid _ _ _ _ _ _ l.invariant.3 (omega arith);
      dark_value = (met, both ∙ shows);
      dark_bound = (c.ones_in-dark.ensures.1, rw (both, shows) (shown_few a.pattern.now a.column a.row small a.from a.to));
    }
