-- The invariant: of the row, k records are seen, and the rest of it starts before place n beside the depth d.
use mathlib.Core.Path.{◌≡◌, sym, ap, ap₂, ◌∙◌}
use mathlib.Core.List.{List}
use Prim.Native.Nat.{ℕ, ◌+◌, ◌-◌}
use native.Mathlib.Nat.{zero-add, sub-zero}
use native.Mathlib.Omega.{arith}
use Rattle.rules.specs.Record.{damaged}
use Rattle.rules.specs.Call.{place_before}
use Rattle.rules.specs.World as fit
use Rattle.salvage_row.specs.Row.{record_at, depth_at, row}
use Rattle.salvage_row.proofs.Rows.{row_stop, row_turn, row_over}
use Rattle.salvage_row.proofs.row_length.Goals as goal

-- what is lent is the record before place n
lent_record : (history place : List ℕ) (r p n : ℕ) → place ≡ record_at history p → r ≡ fit.places history → p ≡ place_before r n
    → place ≡ record_at history (place_before (fit.places history) n)
lent_record history place r p n e f g = e ∙ rw (g, f)

pub loop-k-init : goal.loop-k-init
loop-k-init c = (c.places-places.ensures, omega (arith, c.places-places.ensures), rw (zero-add, sub-zero))

pub returns-then-is_damaged : goal.returns-then-is_damaged
returns-then-is_damaged c =
    let loop = c.loop-k in
    let same = lent_record _ _ _ _ loop.n c.place-place.ensures loop.invariant.0 c.place_before-p.ensures.0 in
    let end = c.args.end in
    let bad = ap (λ (r : List ℕ). damaged end r loop.d) (sym same) ∙ sym c.is_damaged.ensures ∙ c.if-is_damaged.true in
    row_stop _ _ _ loop.k loop.n loop.d _ (omega arith) bad loop.invariant.2

pub loop-k-preserved : goal.loop-k-preserved
loop-k-preserved c =
    let loop = c.loop-k in
    let args = c.args in
    let history = args.history.now in
    let end = args.end in
    let place = c.place_before-p.ensures in
    let same = lent_record history _ _ _ loop.n c.place-place.ensures loop.invariant.0 place.0 in
    let good = ap (λ (r : List ℕ). damaged end r loop.d) (sym same) ∙ sym c.is_damaged.ensures ∙ c.if-is_damaged.false in (
      loop.invariant.0,
      place.1,
      ap₂ (λ (p d : ℕ). loop.k + 1 + row end history (args.kept - (loop.k + 1)) p d) (place.0 ∙ ap (λ (r : ℕ). place_before r loop.n) loop.invariant.0)
          (c.depth_at-d.ensures ∙ ap depth_at same)
          ∙ row_turn end history args.kept loop.k loop.n loop.d _ (omega arith) good loop.invariant.2,
    )

pub returns : goal.returns
returns c =
    let all : c.args.kept ≡ c.loop-k.k = omega arith in
    all ∙ row_over _ _ _ _ _ _ _ (omega arith) c.loop-k.invariant.2
