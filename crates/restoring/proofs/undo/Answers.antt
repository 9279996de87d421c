-- Each way out is a law of the step back: nothing kept, damaged, late, or everything as the record has it.
use mathlib.Core.Path.{◌≡◌, sym, ap, ap₂, ◌∙◌, subst₂}
use mathlib.Core.Bool.{false}
use mathlib.Core.List.{List}
use Prim.Native.Nat.{ℕ, ◌+◌, ◌-◌, ◌≤◌}
use native.Mathlib.Omega.{arith}
use Rattle.std.specs.Prelude.{Some}
use Rattle.std.proofs.lemmas.Result.{err_from_is_err_and}
use Rattle.rules.specs.declared.Change.{Change}
use Rattle.rules.specs.declared.Machine.{Machine}
use Rattle.rules.specs.State.{with_lit}
use Rattle.rules.specs.Record.{damaged, machine_at, change_at, memory_at, picture_at}
use Rattle.rules.specs.World.{World, world}
use Rattle.rules.specs.Call.{place_before, last_record}
use Rattle.rules.specs.Rows.{bytes_of}
use Rattle.rules.proofs.Given.{done_number}
use Rattle.rules.proofs.Undo.{Fits, usable}
use Rattle.picture.specs.declared.Spots.{Spots}
use Rattle.history.specs.declared.Restored.{Restored}
use Rattle.history.specs.Restored.{restored}
use Rattle.lit.specs.Balance.{Balance}
use Rattle.lit.proofs.Laws.{in_range}
use Rattle.restoring.proofs.Undone.{fits_lent, none_read, some_read, last_lent, nothing_kept, is_damaged, is_late, back_gives}
use Rattle.restoring.proofs.undo.Goals as goal

-- ---- behind the test of the record

-- the place that is lent is the last record, and it is sound
module _ (w : World) (l : List ℕ) (old : Restored) (lent : l ≡ last_record w) (read : restored l w.machine ≡ Some old) where
  intact : damaged w.machine.end (last_record w) w.machine.depth ≡ false
  intact = (some_read (last_record w) w.machine old (rw lent at read)).0

  whole : old ≡ record { machine = machine_at (last_record w) w.machine; change = change_at (last_record w) }
  whole = (some_read (last_record w) w.machine old (rw lent at read)).1

  fits : w.machine.end ≤ 4096 → Fits 4096 old.change
  fits most = rw whole (fits_lent w.machine.end (change_at (last_record w)) most (usable w.machine.end (last_record w) w.machine.depth intact).fits)

  -- what would be turned over
  balanced : (spots : Spots) → Balance spots w.picture (picture_at old.change l w.picture)
      → Balance spots w.picture (picture_at (change_at (last_record w)) (last_record w) w.picture)
  balanced spots b =
      subst₂ (λ (k : Change) (r : List ℕ). Balance spots w.picture (picture_at k r w.picture)) (ap (λ (o : Restored). o.change) whole) lent b

pub returns-then-trail-eq0 : goal.returns-then-trail-eq0
returns-then-trail-eq0 c = nothing_kept _ c.requires c.if-trail-eq0.true

pub place-place-requires : goal.place-place-requires
place-place-requires c = omega (arith, c.place_before-last.ensures.1, c.places.ensures)

pub returns-in_default : goal.returns-in_default
returns-in_default c =
    let a = c.args in
    let w = world a.machine.now a.trail.now a.memory.now (bytes_of a.rows.now) a.history.now in
    let lent = last_lent w _ _ _ c.places.ensures c.place_before-last.ensures.0 c.place-place.ensures in
    is_damaged w c.requires c.if-trail-eq0.false (none_read (last_record w) w.machine (rw lent at (sym c.read.ensures ∙ c.in_default.is)))

pub would_put_back-spots-requires : goal.would_put_back-spots-requires
would_put_back-spots-requires c =
    let a = c.args in
    let w = world a.machine.now a.trail.now a.memory.now (bytes_of a.rows.now) a.history.now in
    let lent = last_lent w _ _ _ c.places.ensures c.place_before-last.ensures.0 c.place-place.ensures in
    fits w _ _ lent (sym c.read.ensures ∙ c.in-Some.is) c.requires.good.machine.end.most

pub late-requires : goal.late-requires
late-requires c = c.would_put_back-spots.ensures.dark_bound

pub returns-in_err-late : goal.returns-in_err-late
returns-in_err-late c =
    let a = c.args in
    let w = world a.machine.now a.trail.now a.memory.now (bytes_of a.rows.now) a.history.now in
    let lent = last_lent w _ _ _ c.places.ensures c.place_before-last.ensures.0 c.place-place.ensures in
    let read = sym c.read.ensures ∙ c.in-Some.is in
    let turned = balanced w _ _ lent read c.would_put_back-spots.result c.would_put_back-spots.ensures.balance in
    let p = err_from_is_err_and c.from_residual.result c.from_residual.ensures.1 in
    rw (p.1, p.2) (is_late w c.requires c.if-trail-eq0.false (intact w _ _ lent read) _ (rw c.in_err-late.was at (c.late.ensures _ _ turned)))

pub put_back-requires : goal.put_back-requires
put_back-requires c =
    let a = c.args in
    let w = world a.machine.now a.trail.now a.memory.now (bytes_of a.rows.now) a.history.now in
    let lent = last_lent w _ _ _ c.places.ensures c.place_before-last.ensures.0 c.place-place.ensures in
    fits w _ _ lent (sym c.read.ensures ∙ c.in-Some.is) c.requires.good.machine.end.most

pub counted-requires : goal.counted-requires
counted-requires c =
    let a = c.args in
    let w = world a.machine.now a.trail.now a.memory.now (bytes_of a.rows.now) a.history.now in
    let lent = last_lent w _ _ _ c.places.ensures c.place_before-last.ensures.0 c.place-place.ensures in
    let turned = balanced w _ _ lent (sym c.read.ensures ∙ c.in-Some.is) c.would_put_back-spots.result c.would_put_back-spots.ensures.balance in
    let (low, high) = in_range a.machine.now.lit _ _ _ turned (sym (c.late.ensures _ _ turned) ∙ done_number c.in_ok-late.was) in
    (c.would_put_back-spots.ensures.dark_bound.0, low, high)

-- kept and ahead together are at most R
pub overflow_add-trail : goal.overflow_add-trail
overflow_add-trail c = omega (arith, c.requires.limit, c.requires.most)

pub returns : goal.returns
returns c =
    let a = c.args in
    let w = world a.machine.now a.trail.now a.memory.now (bytes_of a.rows.now) a.history.now in
    let lent = last_lent w _ _ _ c.places.ensures c.place_before-last.ensures.0 c.place-place.ensures in
    let known = sym c.read.ensures ∙ c.in-Some.is in
    let read = whole w _ _ lent known in
    let turned = balanced w _ _ lent known c.would_put_back-spots.result c.would_put_back-spots.ensures.balance in
    let passes = sym (c.late.ensures _ _ turned) ∙ done_number c.in_ok-late.was in
    let change = ap (λ (o : Restored). o.change) read in
    let t = a.trail.now in
    back_gives w c.requires c.if-trail-eq0.false (intact w _ _ lent known) passes _ _ _ _
    (ap₂ (λ (m : Machine) (n : ℕ). with_lit n m) (ap (λ (o : Restored). o.machine) read) (c.counted.ensures _ _ turned))
    (ap (λ (n : ℕ). record { next = n; kept = t.kept - 1; ahead = t.ahead + 1 })
    (c.place_before-last.ensures.0 ∙ ap (λ (k : ℕ). place_before k t.next) c.places.ensures))
    (c.put_back.ensures.memory_after ∙ ap₂ (λ (k : Change) (l : List ℕ). memory_at k l w.memory) change lent)
    (c.put_back.ensures.rows_after ∙ ap₂ (λ (k : Change) (l : List ℕ). picture_at k l w.picture) change lent)
