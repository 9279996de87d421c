-- It is refused by what was judged; else its record is kept in two parts, the second by the drawing itself.
use mathlib.Core.Path.{◌≡◌, refl, sym, ap, ap₂, ◌∙◌}
use mathlib.Core.List.{List}
use Prim.Native.Nat.{ℕ, ◌+◌, ◌*◌, ◌≤◌}
use native.Mathlib.Omega.{arith}
use lib.ListN.{length}
use Rattle.rules.specs.declared.Action.TheVariants.{Step}
use Rattle.std.specs.Prelude.{Result, Ok}
use Rattle.std.proofs.lemmas.Result.{err_from_is_err_and}
use Rattle.rules.specs.declared.Refusal.{Refusal}
use Rattle.rules.specs.declared.Op.{Op}
use Rattle.rules.specs.declared.Op.TheVariants.{Draw}
use Rattle.rules.specs.Number.{or_later}
use Rattle.rules.specs.Refusal.{number}
use Rattle.rules.specs.Memory.{over, part}
use Rattle.rules.specs.Picture.{drawn}
use Rattle.rules.specs.Step.{refusal_of, lit_refusal, past, change_of, after, column, row, reach, row_bytes}
use Rattle.rules.specs.Dark.{dark_of}
use Rattle.rules.specs.World.{World, world}
use Rattle.rules.specs.Rows.{bytes_of}
use Rattle.rules.proofs.Choices.{both_zero}
use Rattle.rules.proofs.Given.{done_number}
use Rattle.rules.proofs.Turning.{picture_rows}
use Rattle.parts.specs.Whole.{whole}
use Rattle.act.proofs.Laws.{draw_reach, draw_passes}
use Rattle.keeping.proofs.Inside.{lent_inside}
use Rattle.ways.specs.Steps.{Reached}
use Rattle.ways.proofs.OneStep.{verdict, in_range, place_inside, reached_back, step_kept, made}
use Rattle.drawing_way.proofs.Pattern.{fits, rows_old, pattern_length}
use Rattle.drawing_way.proofs.drawing_step.Goals as goal

-- what is known of a drawing that was reached, wherever it is asked
module _ {w : World} {x y n : ℕ} (r : Reached (Draw x y n) w) where
  abbrev op : Op
  op = Draw x y n

  short : n ≤ 15
  short = omega (arith, fits w op r)

  -- what is judged of it, from where it starts on
  abbrev Says : ℕ → ℕ → ℕ → Type 0
  Says k at down = k ≡ or_later (past w.machine n) (lit_refusal w.machine.lit w.picture (drawn (part w.memory w.machine.i n) at down w.picture))

  -- that is the verdict
  says : (k at down : ℕ) → at ≡ column w.machine x → down ≡ row w.machine y → Says k at down → k ≡ verdict w r.ready op
  unfolding refusal_of after
  says k at down a d e = rw (← a, ← d) e

  passed : {A : Type 0} (o : Result A Refusal) (at down : ℕ) {v : A} → at ≡ column w.machine x → down ≡ row w.machine y → Says (number o) at down → o ≡ Ok v → verdict w r.ready op ≡ 0
  passed o at down a d e done = sym (says (number o) at down a d e) ∙ done_number done

  -- what a verdict of 0 leaves
  module _ (free : verdict w r.ready op ≡ 0) where
    within : reach w.machine n ≤ 4096
    within = draw_reach op w.machine (both_zero (refusal_of op w.machine) _ free).0 r.ready.good.machine.end.most _ _ _ refl

    -- the pattern is as long as it was asked for
    long : length (part w.memory w.machine.i n) ≡ n
    long = pattern_length w.memory w.machine.i n r.ready.good.memory.size within

    lit_passes : lit_refusal w.machine.lit w.picture (drawn (part w.memory w.machine.i n) (column w.machine x) (row w.machine y) w.picture) ≡ 0
    lit_passes = draw_passes op w.machine w.memory w.picture (both_zero (refusal_of op w.machine) _ free).1 _ _ _ refl

pub drawable-requires : goal.drawable-requires
drawable-requires c =
    let good = c.requires.ready.good in
    (good.machine.lit, good.machine.end.most, c.column_of-column.ensures.1, c.row_of-row.ensures.1, short c.requires)

pub returns-in_err-drawable : goal.returns-in_err-drawable
returns-in_err-drawable c =
    let a = c.args in
    let judged = says c.requires _ _ _ c.column_of-column.ensures.0 c.row_of-row.ensures.0 (c.drawable.ensures a.v.now a.stack.now) in
    let p = err_from_is_err_and c.from_residual.result c.from_residual.ensures.1 in
    rw (p.1, p.2)
    (reached_back a.keys a.random a.c a.v.now a.stack.now a.trail a.memory.now (bytes_of a.rows.now) a.history.now (Draw a.x a.y a.n) _ c.requires (sym (ap number c.in_err-drawable.was) ∙ judged))

pub keep-requires : goal.keep-requires
keep-requires c = (place_inside _ c.requires.ready, c.requires.ready.good.machine.calls.most)

pub pattern-pattern-requires : goal.pattern-pattern-requires
pattern-pattern-requires c =
    let free = passed c.requires _ _ _ c.column_of-column.ensures.0 c.row_of-row.ensures.0 (c.drawable.ensures c.args.v.now c.args.stack.now) c.in_ok-drawable.was in
    within c.requires free

pub overflow_add-at : goal.overflow_add-at
overflow_add-at c = omega (arith, place_inside _ c.requires.ready)

pub slice_bounds-draw-end : goal.slice_bounds-draw-end
slice_bounds-draw-end c = omega (arith, place_inside _ c.requires.ready)

pub draw-acted-requires : goal.draw-acted-requires
draw-acted-requires c =
    let r = c.requires in
    let (at, inside) = c.column_of-column.ensures in
    let (down, above) = c.row_of-row.ensures in
    let free = passed r _ _ _ at down (c.drawable.ensures c.args.v.now c.args.stack.now) c.in_ok-drawable.was in
    let size = ap length c.pattern-pattern.ensures ∙ long r free in (
      omega (arith, r.near, r.ready.good.machine.end.most),
      inside,
      above,
      omega (arith, size, short r),
      rw c.pattern-pattern.ensures (rw (← at, ← down) at (lit_passes r free)),
      omega (arith, place_inside _ r.ready),
    )

pub grown-requires : goal.grown-requires
grown-requires c = rw c.places-places.ensures (in_range _ c.requires.ready)

pub returns : goal.returns
unfolding change_of after dark_of
returns c =
    let a = c.args in
    let r = c.requires in
    let w = world (whole a.c a.v.now a.stack.now) a.trail a.memory.now (bytes_of a.rows.now) a.history.now in
    let op = Draw a.x a.y a.n in
    let at = c.column_of-column.ensures.0 in
    let down = c.row_of-row.ensures.0 in
    let free = passed r _ _ _ at down (c.drawable.ensures a.v.now a.stack.now) c.in_ok-drawable.was in
    let change = rw down at c.rows_change-change.ensures in
    let (olds, many) = rows_old a.n (row w.machine a.y) a.memory.now (bytes_of a.rows.now) in
    let drawn = c.draw-acted.ensures in
    let size = ap length c.pattern-pattern.ensures ∙ long r free in
    let room : 292 * a.trail.next + 292 ≤ length c.keep.new.history = omega (arith, place_inside _ r.ready) in
    let few : 32 + row_bytes a.n (row w.machine a.y) ≤ 292 = omega (arith, short r) in
    let laid =
    lent_inside (292 * a.trail.next) 292 c.keep.new.history _ _ 32 _ room few (rw (down, size) at drawn.place_after)
    ∙ sym (ap₂ (λ (l : List ℕ) (k : ℕ). over c.keep.new.history (292 * a.trail.next + 32) l k) olds many) in
    let written = step_kept w r.ready op r.there r.near free a.rows.now _ _ (Step a.keys a.random) (picture_rows _ r.ready.good.picture.size) (rw change at c.keep.ensures) laid in
    made w op r free a.keys a.random _ _ _ _ _ _
    (rw (← c.pattern-pattern.ensures, ← at, ← down) (record { machine = drawn.by_index _; memory = refl; picture = drawn.rows_after }))
    (rw c.places-places.ensures at c.grown.ensures) written
    (rw (← c.pattern-pattern.ensures, ← at, ← down) drawn.dark_value.0) (omega (arith, drawn.dark_value.1, size, short r)) (rw change at c.count_of.ensures)
