-- The proofs of what Copied claims: the table is what stands in the count fields, and its bounds.
use mathlib.Core.Path.{◌≡◌, refl, sym, ap, ap₂, ◌∙◌}
use mathlib.Core.List.{List, [], ◌∷◌}
use Prim.Native.Nat.{ℕ, zero, suc, ◌+◌, ◌*◌, ◌≤◌, ◌<◌}
use native.Mathlib.Nat.{zero-add, mul-suc}
use native.Mathlib.Numerals.{add-one}
use native.Mathlib.Omega.{arith}
use lib.ListN.{get_or}
use lib.Dec.{eqb}
use borrow.Author.Tests.{eq-eqb}
use Rattle.rules.specs.declared.Action.{Action}
use Rattle.rules.specs.declared.Action.TheVariants.{Step, Tick}
use Rattle.rules.specs.declared.Machine.{Machine}
use Rattle.rules.specs.declared.Op.{Op}
use Rattle.rules.specs.declared.Op.TheVariants.{Plain, AwaitKey, Call, Return, Clear, Draw, Decimal, Store, Fetch, Unlisted, MachineCode}
use Rattle.rules.specs.declared.Change.{Change}
use Rattle.rules.specs.Number.{pick}
use Rattle.rules.specs.Step.{row, row_bytes, change_of}
use Rattle.rules.specs.Record.{count, old, word_at}
use Rattle.rules.specs.World.{World, Answer, board_of, places, buffers_fit, soundly}
use Rattle.rules.specs.Call.{op_at, change_by, own_refusal, record_by, acted, last_record}
use Rattle.rules.specs.Call.{step_refusal, stepped, step, ticked}
use Rattle.rules.specs.Run.{ticked_by, run_from, run_refusal, run, Ran, lists_fit, total_from, total}
use Rattle.rules.specs.Copied.{copied_of, step_copied, run_copied, last_count, ticks_wrote, run_wrote_from, run_wrote}
use Rattle.rules.specs.Copied.{Throughout, NoClear, TableCounts, TypedFieldCounts, RunCounts, CopiedFew, CopiedFewer}
use Rattle.rules.proofs.Choices.{choice, by_test, by_tests, passed}
use Rattle.rules.proofs.Parts.{part_over_same, below_get}
use Rattle.rules.proofs.Back.{count_back}
use Rattle.rules.proofs.Follow.{OpFits, decode_fits}
use Rattle.rules.proofs.Ready.{Ready, tests_ready, step_own_law, step_ready, ticked_ready, ticks_ready, record_sized, as_long}
use Rattle.rules.proofs.Chain.{before_next}
use Rattle.rules.proofs.Given.{answered_done, answer_number, tested_ready}

-- ---- the table

pub table_counts : TableCounts
unfolding copied_of change_of
table_counts (Plain s) m = refl
table_counts (AwaitKey x) m = refl
table_counts (Call a) m = refl
table_counts Return m = refl
table_counts Clear m = refl
table_counts (Draw x y n) m = by_test (λ (c : Change). row_bytes n (row m y) ≡ count c) n 0 (λ z. omega arith) (λ ne. refl)
table_counts (Decimal x) m = refl
table_counts (Store x) m = refl
table_counts (Fetch x) m = refl
table_counts Unlisted m = refl
table_counts MachineCode m = refl

pub table_few : (op : Op) (m : Machine) → copied_of op m ≤ 256
unfolding copied_of
table_few (Plain s) m = omega arith
table_few (AwaitKey x) m = omega arith
table_few (Call a) m = omega arith
table_few Return m = omega arith
table_few Clear m = omega arith
table_few (Draw x y n) m = omega arith
table_few (Decimal x) m = omega arith
table_few (Store x) m = omega arith
table_few (Fetch x) m = omega arith
table_few Unlisted m = omega arith
table_few MachineCode m = omega arith

table_fewer : (op : Op) (m : Machine) → OpFits op → (op ≡ Clear → ⊥) → copied_of op m ≤ 120
unfolding copied_of
table_fewer (Plain s) m f other = omega arith
table_fewer (AwaitKey x) m f other = omega arith
table_fewer (Call a) m f other = omega arith
table_fewer Return m f other = omega arith
table_fewer Clear m f other = absurd (other refl)
table_fewer (Draw x y n) m f other = omega arith
table_fewer (Decimal x) m f other = omega arith
table_fewer (Store x) m f other = omega arith
table_fewer (Fetch x) m f other = omega arith
table_fewer Unlisted m f other = omega arith
table_fewer MachineCode m f other = omega arith

-- ---- the field

module _ (w : World) (h : Ready w) (a : Action) (accepted : own_refusal a (board_of w) ≡ 0) where
  -- the record before next, after an action, is the action's
  last_written : last_record (acted a w) ≡ record_by a (board_of w)
  last_written =
      let n = w.trail.next in
      let r = places w.history in
      rw (as_long w h a accepted, before_next r n h.next)
      (part_over_same w.history (record_by a (board_of w)) (292 * n) 292 (omega (arith, h.next)) (record_sized w h a accepted))

  last_count_law : count (change_by a (board_of w)) ≤ 256 → last_count (acted a w) ≡ count (change_by a (board_of w))
  last_count_law few =
      let c = change_by a (board_of w) in
      ap (λ (r : List ℕ). word_at r 30) last_written
      ∙ count_back w.machine c (old c w.memory w.picture) a h.good.machine.v.size (omega arith)

module _ (w : World) (h : Ready w) where
  step_count : (keys random : ℕ) → step_refusal w ≡ 0 → last_count (stepped keys random w) ≡ copied_of (op_at (board_of w)) w.machine
  unfolding stepped
  step_count keys random e =
      let op = op_at (board_of w) in
      let is = table_counts op w.machine in
      last_count_law w h (Step keys random) (sym (step_own_law w h) ∙ e) (omega (arith, table_few op w.machine)) ∙ sym is

  tick_count : last_count (ticked w) ≡ 0
  unfolding ticked
  tick_count = last_count_law w h Tick refl (omega arith)

pub field_counts : TypedFieldCounts
unfolding step_refusal
field_counts w typed =
    record {
      step = λ keys random e. step_count w (ready e) keys random e;
      tick = λ fits sound. tick_count w (tests_ready w typed fits sound);
    }
  where
    ready : step_refusal w ≡ 0 → Ready w
    ready e =
        let first = passed (buffers_fit w) 8 _ e in
        tests_ready w typed first.0 (passed (soundly w) 9 _ first.1).0

-- ---- a run

ticks_count : (n : ℕ) (w : World) → Ready w → ticks_wrote n w ≡ 0
unfolding ticks_wrote
ticks_count zero w h = refl
ticks_count (suc n) w h = omega (arith, tick_count w h, ticks_count n (ticked w) (ticked_ready w h))

-- an accepted step and what it gave
module _ (keys random : ℕ) (w : World) (e : (step keys random w).refusal ≡ 0) where
  accepts : step_refusal w ≡ 0
  unfolding step
  accepts = sym (answer_number (step_refusal w) (stepped keys random w) w) ∙ e

  gives : (step keys random w).world ≡ stepped keys random w
  unfolding step
  gives = ap (λ (a : Answer). a.world) (answered_done (step_refusal w) (stepped keys random w) w accepts)

  step_wrote : Ready w → last_count (step keys random w).world ≡ step_copied w
  unfolding step_copied
  step_wrote h = rw (gives, eq-eqb (step_refusal w) 0 accepts) (step_count w h keys random accepts)

-- two sums that go on where the step is accepted, equal if they are so there
goes_on : (n : ℕ) {x y : ℕ} → (n ≡ 0 → x ≡ y) → pick (eqb n 0) x 0 ≡ pick (eqb n 0) y 0
goes_on n e = by_tests (λ (x y : ℕ). x ≡ y) n 0 e (λ ne. refl)

wrote : (ts ks rs : List ℕ) (w : World) → Ready w → run_wrote_from ts ks rs w ≡ total_from step_copied ts ks rs w
unfolding run_wrote_from total_from
wrote [] ks rs w h = refl
wrote (t ∷ ts) [] rs w h = refl
wrote (t ∷ ts) (k ∷ ks) [] w h = refl
wrote (t ∷ ts) (k ∷ ks) (r ∷ rs) w h =
    let v = ticked_by t w in
    let hv = ticks_ready t w h in
    let a = step k r v in
    let rest = wrote ts ks rs a.world (step_ready v hv k r) in
    rw (ticks_count t w h, zero-add) (goes_on a.refusal (λ e. ap₂ (λ (x y : ℕ). x + y) (step_wrote k r v e hv) rest))

pub run_counts : RunCounts
unfolding run_wrote total run_refusal
run_counts ticks keys randoms w typed =
    goes_on (run_refusal ticks keys randoms w) (λ e. wrote ticks keys randoms w (tested_ready w (lists_fit ticks keys randoms) typed e))

-- ---- the bounds

-- where each step adds at most c
most : (c : ℕ) (ts ks rs : List ℕ) (n : ℕ) (w : World) → Throughout (λ v. step_copied v ≤ c) ts ks rs w
    → total_from step_copied ts ks rs w + c * n ≤ c * (run_from n ts ks rs w).accepted
unfolding Throughout total_from run_from
most c [] ks rs n w few = omega arith
most c (t ∷ ts) [] rs n w few = omega arith
most c (t ∷ ts) (k ∷ ks) [] n w few = omega arith
most c (t ∷ ts) (k ∷ ks) (r ∷ rs) n w few =
    let a = step k r (ticked_by t w) in
    let one : c * (n + 1) ≡ c * n + c = rw (add-one n) (mul-suc c n) in
    by_tests (λ (x : ℕ) (q : Ran). x + c * n ≤ c * q.accepted) a.refusal 0
    (λ e. let (here, later) = few e in omega (arith, here, most c ts ks rs (n + 1) a.world later, one)) (λ ne. omega arith)

run_most : (c : ℕ) (ticks keys randoms : List ℕ) (w : World)
    → (run_refusal ticks keys randoms w ≡ 0 → Throughout (λ v. step_copied v ≤ c) ticks keys randoms w)
    → run_copied ticks keys randoms w ≤ c * (run ticks keys randoms w).accepted
unfolding total run
run_most c ticks keys randoms w few =
    by_tests (λ (x : ℕ) (q : Ran). x ≤ c * q.accepted) (run_refusal ticks keys randoms w) 0
    (λ e. omega (arith, most c ticks keys randoms 0 w (few e))) (λ ne. omega arith)

-- what a step adds is the table's, or nothing
step_most : (c : ℕ) (w : World) → copied_of (op_at (board_of w)) w.machine ≤ c → step_copied w ≤ c
unfolding step_copied
step_most c w few = choice (λ (n : ℕ). n ≤ c) (eqb (step_refusal w) 0) few (omega arith)

module _ {So That : World → Type 0} (leads : (v : World) → Ready v → So v → That v) where
  -- what holds of each step that a run makes, by what is known of it
  throughout : (ts ks rs : List ℕ) (w : World) → Ready w → Throughout So ts ks rs w → Throughout That ts ks rs w
  unfolding Throughout
  throughout [] ks rs w h s = tt
  throughout (t ∷ ts) [] rs w h s = tt
  throughout (t ∷ ts) (k ∷ ks) [] w h s = tt
  throughout (t ∷ ts) (k ∷ ks) (r ∷ rs) w h s =
      let v = ticked_by t w in
      let hv = ticks_ready t w h in
      λ e. (leads v hv (s e).0, throughout ts ks rs (step k r v).world (step_ready v hv k r) (s e).1)

pub copied_fewer : CopiedFewer
unfolding run_refusal
copied_fewer ticks keys randoms w typed s =
    run_most 120 ticks keys randoms w λ e.
    throughout fewer ticks keys randoms w (tested_ready w (lists_fit ticks keys randoms) typed e) s
  where
    fewer : (v : World) → Ready v → NoClear v → step_copied v ≤ 120
    fewer v h other =
        let byte : (k : ℕ) → get_or v.memory k 0 < 256 = below_get (omega arith) h.good.memory.below in
        step_most 120 v (table_fewer (op_at (board_of v)) v.machine (decode_fits _ _ _ (byte v.machine.pc) (byte (v.machine.pc + 1))) other)

-- of every step, whatever the world is
anyway : {So : World → Type 0} → ((v : World) → So v) → (ts ks rs : List ℕ) (w : World) → Throughout So ts ks rs w
unfolding Throughout
anyway so [] ks rs w = tt
anyway so (t ∷ ts) [] rs w = tt
anyway so (t ∷ ts) (k ∷ ks) [] w = tt
anyway so (t ∷ ts) (k ∷ ks) (r ∷ rs) w = λ e. (so (ticked_by t w), anyway so ts ks rs (step k r (ticked_by t w)).world)

pub copied_few : CopiedFew
copied_few ticks keys randoms w =
    run_most 256 ticks keys randoms w
    (λ e. anyway (λ v. step_most 256 v (table_few (op_at (board_of v)) v.machine)) ticks keys randoms w)
