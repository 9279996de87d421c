-- Request Q-13: how many bytes the steps of a run copy into their records, as the rules give it; that this is the total of the count
-- fields of the records that the run wrote; and the most that it can be.
use Rattle.std.specs.Prelude.{◌≡◌, true, List, [], ◌∷◌, ℕ, zero, suc, ◌+◌, ◌-◌, ◌*◌, ◌≤◌, min, eqb}
use Rattle.rules.specs.declared.Machine.{Machine}
use Rattle.rules.specs.declared.Op.{Op}
use Rattle.rules.specs.declared.Op.TheVariants.{Plain, AwaitKey, Call, Return, Clear, Draw, Decimal, Store, Fetch}
use Rattle.rules.specs.declared.Op.TheVariants.{Unlisted, MachineCode}
use Rattle.rules.specs.Number.{pick}
use Rattle.rules.specs.State.{up_to}
use Rattle.rules.specs.Step.{change_of, row}
use Rattle.rules.specs.Record.{at_count, count, word_at}
use Rattle.rules.specs.World.{World, board_of, buffers_fit, soundly}
use Rattle.rules.specs.Call.{op_at, step_refusal, stepped, step, ticked, last_record}
use Rattle.rules.specs.Run.{ticked_by, run_refusal, total, run}
use Rattle.rules.specs.Typed.{TypedBoard}

-- ---- as the rules give it

-- the rows that a drawing of n rows changes from row r on: none below the last row
abbrev pub rows_drawn : ℕ → ℕ → ℕ
rows_drawn n r = min n (32 - r)

-- what an instruction copies
unfoldable pub copied_of : Op → Machine → ℕ
copied_of (Plain s) m = 0
copied_of (AwaitKey x) m = 0
copied_of (Call a) m = 0
copied_of Return m = 0
copied_of Clear m = 256
copied_of (Draw x y n) m = 8 * rows_drawn n (row m y)
copied_of (Decimal x) m = 3
copied_of (Store x) m = up_to x
copied_of (Fetch x) m = 0
copied_of Unlisted m = 0
copied_of MachineCode m = 0

-- what a step adds, 0 where it is refused
unfoldable pub step_copied : World → ℕ
step_copied w = pick (eqb (step_refusal w) 0) (copied_of (op_at (board_of w)) w.machine) 0

-- the number that a run answers: the sum over its accepted steps, entry by entry
abbrev pub run_copied : List ℕ → List ℕ → List ℕ → World → ℕ
run_copied = total step_copied

-- ---- as it stands in the history

-- the count field of the record before next, the one that was written last
abbrev pub last_count : World → ℕ
last_count w = word_at (last_record w) at_count

-- the count fields of the records that some ticks write, and that a run writes, each read as soon as it is written
unfoldable pub ticks_wrote : ℕ → World → ℕ
ticks_wrote zero w = 0
ticks_wrote (suc n) w = last_count (ticked w) + ticks_wrote n (ticked w)

unfoldable pub run_wrote_from : List ℕ → List ℕ → List ℕ → World → ℕ
run_wrote_from (t ∷ ts) (k ∷ ks) (r ∷ rs) w =
    let a = step k r (ticked_by t w) in
    ticks_wrote t w + pick (eqb a.refusal 0) (last_count a.world + run_wrote_from ts ks rs a.world) 0
run_wrote_from [] ks rs w = 0
run_wrote_from (t ∷ ts) [] rs w = 0
run_wrote_from (t ∷ ts) (k ∷ ks) [] w = 0

unfoldable pub run_wrote : List ℕ → List ℕ → List ℕ → World → ℕ
run_wrote ticks keys randoms w = pick (eqb (run_refusal ticks keys randoms w) 0) (run_wrote_from ticks keys randoms w) 0

-- ---- a run without 00E0

-- it is so of each world at which the run makes a step, the ticks before it done; a step that is refused is not made
unfoldable pub Throughout : (World → Type 0) → List ℕ → List ℕ → List ℕ → World → Type 0
Throughout So (t ∷ ts) (k ∷ ks) (r ∷ rs) w =
    let a = step k r (ticked_by t w) in
    a.refusal ≡ 0 → So (ticked_by t w) × Throughout So ts ks rs a.world
Throughout So [] ks rs w = Unit {0}
Throughout So (t ∷ ts) [] rs w = Unit {0}
Throughout So (t ∷ ts) (k ∷ ks) [] w = Unit {0}

-- the instruction at PC is not 00E0
abbrev pub NoClear : World → Type 0
NoClear w = op_at (board_of w) ≡ Clear → ⊥

-- ---- THE CLAIMS, proved in proofs/Copied.antt

-- the table has the count of the change that the record is written for
abbrev pub TableCounts : Type 0
TableCounts = (op : Op) (m : Machine) → copied_of op m ≡ count (change_of op m)

-- and that stands in the count field that an accepted step wrote; the field that a tick wrote, in a world that passes the tests 9 and 10, is 0
pub record FieldCounts (w : World) : Type 0 where
  pub step : (keys random : ℕ) → step_refusal w ≡ 0 → last_count (stepped keys random w) ≡ copied_of (op_at (board_of w)) w.machine
  pub tick : buffers_fit w ≡ true → soundly w ≡ true → last_count (ticked w) ≡ 0

abbrev pub TypedFieldCounts : Type 0
TypedFieldCounts = (w : World) → TypedBoard (board_of w) → FieldCounts w

-- so a run's sum by the rules is the total of the fields
abbrev pub RunCounts : Type 0
RunCounts = (ticks keys randoms : List ℕ) (w : World) → TypedBoard (board_of w) → run_wrote ticks keys randoms w ≡ run_copied ticks keys randoms w

-- at most 256 for each accepted step
abbrev pub CopiedFew : Type 0
CopiedFew = (ticks keys randoms : List ℕ) (w : World) → run_copied ticks keys randoms w ≤ 256 * (run ticks keys randoms w).accepted

-- at most 120 for each in a run that makes no 00E0
abbrev pub CopiedFewer : Type 0
CopiedFewer =
    (ticks keys randoms : List ℕ) (w : World) → TypedBoard (board_of w) → Throughout NoClear ticks keys randoms w
    → run_copied ticks keys randoms w ≤ 120 * (run ticks keys randoms w).accepted
