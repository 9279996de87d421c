-- A step back: what it gives where it is refused, by the tests 9 and 10 or behind them, and what its parts make together.
use mathlib.Core.Path.{◌≡◌, refl, sym, ap, ◌∙◌}
use mathlib.Core.Bool.{Bool, true, false, not}
use mathlib.Core.List.{List}
use Prim.Native.Nat.{ℕ, ◌*◌, ◌≤◌}
use native.Mathlib.Omega.{arith}
use lib.Dec.{eqb}
use borrow.Author.Tests.{eq-eqb, ne_eqb}
use Rattle.rules.specs.declared.Machine.{Machine}
use Rattle.rules.specs.declared.Trail.{Trail}
use Rattle.rules.specs.declared.Change.{Change}
use Rattle.rules.specs.declared.Change.TheVariants.{Nothing, InMemory, InPicture}
use Rattle.rules.specs.declared.Refusal.{Refusal}
use Rattle.rules.specs.declared.Refusal.TheVariants.{NothingKept, Damaged}
use Rattle.std.specs.Prelude.{Option, None, Some, Err, ⊤}
use Rattle.rules.specs.Number.{pick, unless}
use Rattle.rules.specs.Memory.{part}
use Rattle.rules.specs.Record.{damaged, machine_at, change_at, memory_at, picture_at, board_at}
use Rattle.rules.specs.Refusal.{done, number_of}
use Rattle.rules.specs.World.{World, board_of, places, buffers_fit, soundly}
use Rattle.rules.specs.Call.{place_before, shrunk, last_record, back, back_late, back_refusal, undone}
use Rattle.rules.specs.Promise.{Gives}
use Rattle.rules.proofs.Undo.{Fits}
use Rattle.rules.proofs.Ready.{Ready, ready_fits, ready_soundly}
use Rattle.rules.proofs.Given.{Back, tests, some_number, given_refused, answered_done, settled}
use Rattle.history.specs.declared.Restored.{Restored}
use Rattle.history.specs.Restored.{restored}

-- bytes below the end are lent
pub fits_lent : (end : ℕ) (c : Change) → end ≤ 4096 → Fits end c → Fits 4096 c
fits_lent end Nothing most f = tt
fits_lent end (InMemory s n) most f = (f.0, f.1, omega (arith, f.2, most))
fits_lent end (InPicture s n) most f = f

pub back_refused : (w : World) (r : Refusal) → number_of r ≡ tests w true → Back {A = ⊤} (back w) (Err r) w
unfolding back back_refusal
back_refused w r e =
    given_refused (back_refusal w) (undone (last_record w) w) w r (e ∙ settled (buffers_fit w) (soundly w) _ (λ z. some_number r (e ∙ z)))

-- ---- what was read of a record

-- a choice between nothing and something, by what it came to
module _ (x : Restored) where
  tag : Option Restored → ℕ
  tag None = 0
  tag (Some y) = 1

  there : Option Restored → Restored
  there None = x
  there (Some y) = y

  none_chosen : (d : Bool) → pick d None (Some x) ≡ None → d ≡ true
  unfolding tag
  none_chosen true e = refl
  none_chosen false e = absurd (let z : ◌≡◌ {A = ℕ} 1 0 = ap tag e in omega arith)

  some_chosen : (d : Bool) (y : Restored) → pick d None (Some x) ≡ Some y → (d ≡ false) × (y ≡ x)
  unfolding tag there
  some_chosen true y e = absurd (let z : ◌≡◌ {A = ℕ} 0 1 = ap tag e in omega arith)
  some_chosen false y e = (refl, sym (ap there e))

module _ (r : List ℕ) (m : Machine) where
  pub none_read : restored r m ≡ None → damaged m.end r m.depth ≡ true
  none_read e = none_chosen _ (damaged m.end r m.depth) e

  pub some_read : (old : Restored) → restored r m ≡ Some old
      → (damaged m.end r m.depth ≡ false) × (old ≡ record { machine = machine_at r m; change = change_at r })
  some_read old e = some_chosen _ (damaged m.end r m.depth) old e

-- the place that is lent is the last record
pub last_lent : (w : World) (l : List ℕ) (p n : ℕ) → n ≡ places w.history → p ≡ place_before n w.trail.next → l ≡ part w.history (292 * p) 292
    → l ≡ last_record w
last_lent w l p n e f lent = lent ∙ rw (f, e)

module _ (w : World) (h : Ready w) where
  left : back_refusal w ≡ unless (not (eqb w.trail.kept 0)) 7 (unless (not (damaged w.machine.end (last_record w) w.machine.depth)) 11 (back_late w))
  unfolding back_refusal
  left = rw (ready_fits w h, ready_soundly w h)

  pub nothing_kept : w.trail.kept ≡ 0 → Back {A = ⊤} (back w) (Err NothingKept) w
  unfolding back
  nothing_kept e = given_refused (back_refusal w) (undone (last_record w) w) w NothingKept (sym (left ∙ rw (eq-eqb w.trail.kept 0 e)))

  module _ (some : w.trail.kept ≡ 0 → ⊥) where
    pub is_damaged : damaged w.machine.end (last_record w) w.machine.depth ≡ true → Back {A = ⊤} (back w) (Err Damaged) w
    unfolding back
    is_damaged d =
        given_refused (back_refusal w) (undone (last_record w) w) w Damaged (sym (left ∙ rw (ne_eqb w.trail.kept 0 some, d)))

    pub is_late : damaged w.machine.end (last_record w) w.machine.depth ≡ false → (r : Refusal) → number_of r ≡ back_late w → Back {A = ⊤} (back w) (Err r) w
    unfolding back
    is_late d r e =
        given_refused (back_refusal w) (undone (last_record w) w) w r (e ∙ sym (left ∙ rw (ne_eqb w.trail.kept 0 some, d)))

    pub back_gives : damaged w.machine.end (last_record w) w.machine.depth ≡ false → back_late w ≡ 0 → (m' : Machine) (t' : Trail) (mem pic : List ℕ)
        → m' ≡ (board_at (last_record w) (board_of w)).machine
        → t' ≡ shrunk (places w.history) w.trail
        → mem ≡ memory_at (change_at (last_record w)) (last_record w) w.memory
        → pic ≡ picture_at (change_at (last_record w)) (last_record w) w.picture
        → Gives (back w) done m' t' mem pic w.history
    unfolding back undone
    back_gives d late m' t' mem pic em et emem epic =
        rw (answered_done (back_refusal w) (undone (last_record w) w) w (left ∙ rw (ne_eqb w.trail.kept 0 some, d) late))
        (record { says = refl; machine = em; trail = et; memory = emem; picture = epic; history = refl })
