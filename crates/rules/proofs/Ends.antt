-- What ends a run and a play (Lit): a run is ended by an own number of a step, and with a true number of lit spots neither ends in 10.
use mathlib.Core.Path.{◌≡◌, refl, sym, ◌∙◌}
use mathlib.Core.Bool.{Bool, true, false, not}
use mathlib.Core.List.{List, [], ◌∷◌}
use Prim.Native.Nat.{ℕ, ◌+◌, ◌-◌}
use native.Mathlib.Omega.{arith}
use lib.Dec.{eqb, ltb, leb}
use Rattle.rules.specs.declared.Action.{Action}
use Rattle.rules.specs.declared.Action.TheVariants.{Step, Tick}
use Rattle.rules.specs.declared.Machine.{Machine}
use Rattle.rules.specs.declared.Op.{Op}
use Rattle.rules.specs.declared.Op.TheVariants.{Plain, AwaitKey, Call, Return, Clear, Draw, Decimal, Store, Fetch, Unlisted, MachineCode}
use Rattle.rules.specs.Number.{unless}
use Rattle.rules.specs.State.{up_to}
use Rattle.rules.specs.Record.{damaged, kind_sound, action_at}
use Rattle.rules.specs.Step.{Board, refusal_of, past, reach}
use Rattle.rules.specs.World.{World, Answer, board_of, answered}
use Rattle.rules.specs.Call.{op_at, step_own, step_refusal, step, stepped}
use Rattle.rules.specs.Call.{back, back_refusal, last_record, undone, forward, forward_refusal, next_record, redone}
use Rattle.rules.specs.Run.{Move, a_step, a_tick, a_back, a_forward, made, play_from, unrefused, ticked_by, run_from, run_refusal, run, Ran}
use Rattle.rules.specs.Run.{lists_fit, moves_fit, moves_of, play_refusal, play}
use Rattle.rules.specs.Lit.{TrueLit, own_tests, RunEnds, RunTrue, PlayTrue}
use Rattle.rules.proofs.Choices.{by_test}
use Rattle.rules.proofs.Ready.{Ready, ready_fits, ready_soundly, step_own_law, step_ready, ticks_ready}
use Rattle.rules.proofs.Given.{answer_number, tested_ready}
use Rattle.rules.proofs.Each.{made_lasts}
use Rattle.rules.proofs.Stays.{Lasting, lasting}
use Rattle.rules.proofs.Lit.{own_lit, never_late, lit_lasts, lit_kept}
use Rattle.rules.proofs.RunsPlay.{tick_done}

-- ---- a run

-- what ends it is an own number of the step at which it ends
abbrev Ended : Answer → Type 0
Ended a = (a.refusal ≡ 0 → ⊥) → a.refusal ≡ step_own (board_of a.world)

step_ends : (keys random : ℕ) (w : World) → Ready w → Ended (step keys random w)
unfolding step
step_ends keys random w h = by_test Ended (step_refusal w) 0 (λ z ne. absurd (ne refl)) (λ ne _. step_own_law w h)

ends : (n : ℕ) (ts ks rs : List ℕ) (w : World) → Ready w → Ended (run_from n ts ks rs w).answer
unfolding run_from
ends n [] ks rs w h = λ ne. absurd (ne refl)
ends n (t ∷ ts) [] rs w h = λ ne. absurd (ne refl)
ends n (t ∷ ts) (k ∷ ks) [] w h = λ ne. absurd (ne refl)
ends n (t ∷ ts) (k ∷ ks) (r ∷ rs) w h =
    let v = ticked_by t w in
    let ready = ticks_ready t w h in
    let a = step k r v in
    by_test (λ (q : Ran). Ended q.answer) a.refusal 0 (λ z. ends (n + 1) ts ks rs a.world (step_ready v ready k r))
    (λ ne. step_ends k r v ready)

pub run_ends : RunEnds
unfolding run run_refusal
run_ends ticks keys randoms w typed e =
    by_test (λ (q : Ran). Ended q.answer) (run_refusal ticks keys randoms w) 0
    (λ z. ends 0 ticks keys randoms w (tested_ready w (lists_fit ticks keys randoms) typed e)) (λ ne. absurd (ne e))

-- ---- numbers other than 10

abbrev Other : ℕ → Type 0
Other n = n ≡ 10 → ⊥

other_unless : (t : Bool) {k x : ℕ} → Other k → Other x → Other (unless t k x)
other_unless true a b = b
other_unless false a b = a

six_or_none : (m : Machine) (n : ℕ) → Other (past m n)
six_or_none m n = other_unless (leb (reach m n) m.end) (λ e. omega arith) (λ e. omega arith)

other_op : (op : Op) (m : Machine) → Other (refusal_of op m)
unfolding refusal_of
other_op (Plain s) m e = omega arith
other_op (AwaitKey x) m e = omega arith
other_op (Call a) m e = other_unless (ltb m.depth 12) (λ e. omega arith) (λ e. omega arith) e
other_op Return m e = other_unless (ltb 0 m.depth) (λ e. omega arith) (λ e. omega arith) e
other_op Clear m e = omega arith
other_op (Draw x y n) m e = six_or_none m n e
other_op (Decimal x) m e = six_or_none m 3 e
other_op (Store x) m e = six_or_none m (up_to x) e
other_op (Fetch x) m e = six_or_none m (up_to x) e
other_op Unlisted m e = omega arith
other_op MachineCode m e = omega arith

other_own : (a : Action) (b : Board) → Other (own_tests a b)
other_own (Step keys random) b = other_unless (leb b.machine.pc (b.machine.end - 2)) (λ e. omega arith) (other_op (op_at b) b.machine)
other_own Tick b = λ e. omega arith

pub run_true : RunTrue
run_true ticks keys randoms w typed t e ten =
    let a = (run ticks keys randoms w).answer in
    let own = run_ends ticks keys randoms w typed e (λ z. omega arith) in
    other_own (Step 0 0) (board_of a.world) (sym (own_lit a.world (lit_kept.run ticks keys randoms w t) (Step 0 0)) ∙ sym own ∙ ten)

-- ---- a play

module _ (w : World) (ready : Ready w) (lit : TrueLit w) where
  other_answer : (refusal : ℕ) (new : World) → Other refusal → Other (answered refusal new w).refusal
  other_answer refusal new o = rw (answer_number refusal new w) o

  step_other : Other (step_refusal w)
  step_other = rw ((never_late w lit).step, ready_fits w ready, ready_soundly w ready) (other_own (Step 0 0) (board_of w))

  back_other : Other (back_refusal w)
  back_other =
      rw ((never_late w lit).back, ready_fits w ready, ready_soundly w ready)
      (other_unless (not (eqb w.trail.kept 0)) (λ e. omega arith)
      (other_unless (not (damaged w.machine.end (last_record w) w.machine.depth)) (λ e. omega arith) (λ e. omega arith)))

  forward_other : Other (forward_refusal w)
  forward_other =
      rw ((never_late w lit).forward, ready_fits w ready, ready_soundly w ready)
      (other_unless (not (eqb w.trail.ahead 0)) (λ e. omega arith)
      (other_unless (kind_sound (next_record w)) (λ e. omega arith) (other_own (action_at (next_record w)) (board_of w))))

  made_other : (m : Move) → Other (made m w).refusal
  unfolding step back forward
  made_other (a_step keys random) = other_answer (step_refusal w) (stepped keys random w) step_other
  made_other a_tick = rw (tick_done w ready) (λ e. omega arith)
  made_other a_back = other_answer (back_refusal w) (undone (last_record w) w) back_other
  made_other a_forward = other_answer (forward_refusal w) (redone (action_at (next_record w)) w) forward_other

plays_other : (moves : List Move) (a : Answer) → Lasting a.world → TrueLit a.world → Other a.refusal → Other (play_from moves a).refusal
unfolding play_from
plays_other [] a h t o = o
plays_other (m ∷ ms) a h t o =
    let w = a.world in
    plays_other ms (made m w) (made_lasts Lasting lasting m w h) (made_lasts TrueLit lit_lasts m w t) (made_other w h.ready t m)

pub play_true : PlayTrue
unfolding play play_refusal
play_true moves keys randoms w bytes typed t e =
    let start : Lasting w = record { ready = tested_ready w (moves_fit moves keys randoms) typed e; bytes = bytes } in
    by_test (λ (a : Answer). Other a.refusal) (play_refusal moves keys randoms w) 0
    (λ z. plays_other (moves_of moves keys randoms) (unrefused w) start t (λ e. omega arith)) (λ ne. absurd (ne e))
