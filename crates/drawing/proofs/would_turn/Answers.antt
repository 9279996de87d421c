-- The invariant: of the rows that are passed both counts are right.
use mathlib.Core.Path.{◌≡◌, ap, ◌∙◌}
use Prim.Native.Nat.{ℕ, ◌+◌, ◌-◌, ◌≤◌, ◌<◌}
use native.Mathlib.Omega.{arith}
use lib.Bits.{bit_and}
use lib.Count.{ones}
use lib.ListN.{length, get_or}
use Rattle.picture.specs.Sums.{between}
use Rattle.picture.proofs.LitRows.{no_row, row_more}
use Rattle.pattern.specs.Masks.{met_at, shows_at}
use Rattle.pattern.proofs.Shown.{mask_is}
use Rattle.pattern.proofs.Counted.{met_shown, once_counted}
use Rattle.pattern.proofs.Gathered.{shown_few}
use Rattle.drawing.proofs.Reach.{reach, few_turned}
use Rattle.drawing.proofs.would_turn.Goals.{After-loop-k}
use Rattle.drawing.proofs.would_turn.Goals as goal

-- both counts, and that no more is met than shown
counted : (c : After-loop-k) → let a = c.args in
    let end = a.row + c.min-all.result in
    (c.loop-k.dark ≡ between (met_at a.pattern.now a.column a.row a.rows.now) a.row end)
    × (c.loop-k.shown ≡ between (shows_at a.pattern.now a.column a.row) a.row end) × (c.loop-k.dark ≤ c.loop-k.shown)
counted c =
    let a = c.args in
    let l = c.loop-k in
    let end = a.row + c.min-all.result in
    let small : (k : ℕ) → get_or a.pattern.now k 0 < 256 = λ k. omega (arith, c.type_inv.pattern k) in
    let all : l.k ≡ end - a.row = omega arith in
    let met = rw all at l.invariant.0.is in
    let shows = rw all at l.invariant.1.is in
    (met, shows, rw (met, shows) (met_shown a.pattern.now a.column a.row small a.rows.now a.row end))

pub loop-k-init : goal.loop-k-init
loop-k-init c = (no_row _, no_row _)

pub loop-k-preserved : goal.loop-k-preserved
loop-k-preserved c =
    let l = c.loop-k in
    let a = c.args in
    let here : a.row + l.k - a.row ≡ l.k = omega arith in
    let is = c.mask_of-mask.ensures ∙ mask_is a.pattern.now a.column a.row (a.row + l.k) c.from.result (omega arith) (rw here c.from.ensures) in (
      row_more _ l.k l.dark c.ones_in-dark.result l.invariant.0
          (c.ones_in-dark.ensures.0 ∙ ap (λ (m : ℕ). ones (bit_and (get_or a.rows.now (a.row + l.k) 0) m)) is) c.ones_in-dark.ensures.1,
      row_more _ l.k l.shown c.ones_in-shown.result l.invariant.1 (c.ones_in-shown.ensures.0 ∙ ap ones is) c.ones_in-shown.ensures.1,
    )

pub overflow_sub-result : goal.overflow_sub-result
overflow_sub-result c = (counted c).2

pub returns : goal.returns
returns c =
    let a = c.args in
    let end = a.row + c.min-all.result in
    let h = reach a.row (length a.pattern.now) c.min-all.result c.requires.1 c.requires.2 c.min-all.ensures in
    let small : (k : ℕ) → get_or a.pattern.now k 0 < 256 = λ k. omega (arith, c.type_inv.pattern k) in
    let (met, shows, fits) = counted c in
    let (dark, all) = once_counted a.pattern.now a.column a.row a.rows.now small end _ _ h.on h.inside h.beneath met shows in
    let both : c.loop-k.dark + (c.loop-k.shown - c.loop-k.dark) ≡ c.loop-k.shown = omega arith in
    few_turned a.pattern.now a.column a.row end _ _ h dark (both ∙ all) (rw (both, shows) (shown_few a.pattern.now a.column a.row small a.row end))
