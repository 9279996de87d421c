-- After a salvage the kept records are a whole row of sound ones; a step back takes the newest, and leaves a whole row behind it.
use mathlib.Core.Path.{◌≡◌, refl, sym, ◌∙◌, subst}
use mathlib.Core.Bool.{true, false}
use mathlib.Core.List.{List}
use Prim.Native.Nat.{ℕ, zero, suc, ◌*◌}
use native.Mathlib.Omega.{arith}
use borrow.Author.Tests.{ne_eqb}
use Rattle.rules.specs.declared.Machine.{Machine}
use Rattle.rules.specs.declared.Trail.{Trail}
use Rattle.rules.specs.Record.{at_depth, byte_at, damaged, picture_at, change_at}
use Rattle.rules.specs.World.{World, world, board_of, places, buffers_fit}
use Rattle.rules.specs.Call.{place_before, last_record, back_late, back_refusal, undone, back}
use Rattle.rules.specs.Typed.{Below, TypedBoard}
use Rattle.rules.specs.Lit.{TrueLit}
use Rattle.rules.proofs.Counted.{true_passes}
use Rattle.rules.proofs.Given.{answered_done, answer_number}
use Rattle.rules.proofs.Lit.{lit_kept}
use Rattle.rules.proofs.Parts.{below_over, below_zeros}
use Rattle.rules.proofs.Ready.{Ready, start_ready, ready_fits, ready_soundly, undone_ready}
use Rattle.salvage_row.specs.Row.{row}
use Rattle.salvage_row.proofs.Rows.{row_first}
use Rattle.salvage_places.proofs.Clearing.{cleared_keeps}
use Rattle.salvage.specs.Salvage.{Salvage, row_of, salvage}
use Rattle.salvage.specs.Backs.{Backs, BacksAll, BacksKept}
use Rattle.salvage.proofs.Accepted.{of_accepted}
use Rattle.salvage.proofs.After as after

-- ---- one step back

back_says : (w : World) → (back w).refusal ≡ back_refusal w
unfolding back
back_says w = answer_number (back_refusal w) _ w

back_gives : (w : World) → back_refusal w ≡ 0 → (back w).world ≡ undone (last_record w) w
unfolding back
back_gives w e = rw (answered_done (back_refusal w) (undone (last_record w) w) w e)

module _ (w : World) (h : Ready w) where
  nothing_left : w.trail.kept ≡ 0 → back_refusal w ≡ 7
  unfolding back_refusal
  nothing_left e = rw (ready_fits w h, ready_soundly w h, e)

  only_late : (k : ℕ) → w.trail.kept ≡ suc k → damaged w.machine.end (last_record w) w.machine.depth ≡ false → back_refusal w ≡ back_late w
  unfolding back_refusal
  only_late k e d = rw (ready_fits w h, ready_soundly w h, ne_eqb w.trail.kept 0 (λ z. omega arith), d)

-- ---- all of them

-- a world whose k kept records are a row of sound ones
record Whole (k : ℕ) (w : World) : Type 0 where
  ready : Ready w
  bytes : Below 256 w.history
  kept : w.trail.kept ≡ k
  row : row w.machine.end w.history k w.trail.next w.machine.depth ≡ k

module _ (k : ℕ) (w : World) (h : Whole (suc k) w) where
  first_two : (damaged w.machine.end (last_record w) w.machine.depth ≡ false)
      × (row w.machine.end w.history k (place_before (places w.history) w.trail.next) (byte_at (last_record w) at_depth) ≡ k)
  first_two = row_first w.machine.end w.history k w.trail.next w.machine.depth h.row

  whole_late : back_refusal w ≡ back_late w
  whole_late = only_late w h.ready k h.kept first_two.0

  whole_back : back_late w ≡ 0 → Whole k (back w).world
  unfolding undone
  whole_back late =
      let e = whole_late ∙ late in
      subst (Whole k) (sym (back_gives w e))
      (record { ready = undone_ready w h.ready h.bytes e; bytes = h.bytes; kept = omega (arith, h.kept); row = first_two.1 })

backs : (k : ℕ) (w : World) → Whole k w → Backs k w
backs zero w h = back_says w ∙ nothing_left w h.ready h.kept
backs (suc k) w h = (back_says w ∙ whole_late k w h, λ late. backs k (back w).world (whole_back k w h late))

-- with a true number the test of the lit spots refuses none
backs_all : (k : ℕ) (w : World) → TrueLit w → Backs k w → BacksAll k w
backs_all zero w t b = b
backs_all (suc k) w t b =
    let late = true_passes w.machine.lit w.picture (picture_at (change_at (last_record w)) (last_record w) w.picture) t in
    (b.0 ∙ late, backs_all k (back w).world (lit_kept.back w t) (b.1 late))

-- ---- after a salvage

module _ (m : Machine) (t : Trail) (history list memory picture : List ℕ) (bytes : Below 256 history) where
  -- beside the memory and the picture
  abbrev beside : Salvage → World
  beside s = world m s.trail memory picture s.history

  whole : (salvage m t history list).refusal ≡ 0
      → let s = salvage m t history list in TypedBoard (board_of (beside s)) → buffers_fit (beside s) ≡ true → Whole s.kept (beside s)
  whole =
      of_accepted m t history list (λ s. TypedBoard (board_of (beside s)) → buffers_fit (beside s) ≡ true → Whole s.kept (beside s))
      (λ a typed fits.
      let r = places history in
      let many = after.as_many m t history list a in
      record {
        ready = start_ready _ typed fits a.sound (rw many a.next) (rw many (omega (arith, after.row_few m t history list a)));
        bytes = cleared_keeps r t.next (row_of m t history) (Below 256)
            (λ h p hp out b. below_over b (below_zeros 292 (omega arith)) (292 * p) 292) r 0 history (omega arith) bytes;
        kept = refl;
        row = after.row_again m t history list a;
      })

pub backs_kept : BacksKept
backs_kept m t history list memory picture bytes e typed fits =
    let s = salvage m t history list in
    let w = world m s.trail memory picture s.history in
    let each = backs s.kept w (whole m t history list memory picture bytes e typed fits) in
    (each, λ lit. backs_all s.kept w lit each)
