-- A step forward: what it gives where it is refused, by the tests 9 and 10 or behind them; and else it is its action with another number ahead.
use mathlib.Core.Path.{◌≡◌, refl, sym, ap, ◌∙◌}
use mathlib.Core.Bool.{true, false, not}
use mathlib.Core.List.{List}
use Prim.Native.Nat.{ℕ, ◌-◌}
use lib.Dec.{eqb}
use borrow.Author.Tests.{eq-eqb, ne_eqb}
use Rattle.rules.specs.declared.Action.{Action}
use Rattle.rules.specs.declared.Action.TheVariants.{Step, Tick}
use Rattle.rules.specs.declared.Machine.{Machine}
use Rattle.rules.specs.declared.Trail.{Trail}
use Rattle.rules.specs.declared.Refusal.{Refusal}
use Rattle.rules.specs.declared.Refusal.TheVariants.{Damaged, NothingAhead}
use Rattle.std.specs.Prelude.{Ok, Err, ⊤}
use Rattle.rules.specs.Number.{unless}
use Rattle.rules.specs.Record.{kind_sound, action_at}
use Rattle.rules.specs.Refusal.{number_of}
use Rattle.rules.specs.World.{World, board_of, buffers_fit, soundly, answered}
use Rattle.rules.specs.Call.{own_refusal, acted, step, stepped, ticked, next_record, forward_refusal, redone, forward}
use Rattle.rules.specs.Promise.{Gives}
use Rattle.rules.proofs.Ready.{Ready, ready_fits, ready_soundly, step_own_law}
use Rattle.rules.proofs.Given.{Back, tests, some_number, given_refused, settled, answer_number}
use Rattle.rules.proofs.RunsPlay.{tick_done}
use Rattle.stepping.specs.Taken.{taken}

pub forward_refused : (w : World) (r : Refusal) → number_of r ≡ tests w true → Back {A = ⊤} (forward w) (Err r) w
unfolding forward forward_refusal
forward_refused w r e =
    given_refused (forward_refusal w) (redone (action_at (next_record w)) w) w r
    (e ∙ settled (buffers_fit w) (soundly w) _ (λ z. some_number r (e ∙ z)))

module _ (w : World) (h : Ready w) where
  abbrev a : Action
  a = action_at (next_record w)

  rest : forward_refusal w
      ≡ unless (not (eqb w.trail.ahead 0)) 12 (unless (kind_sound (next_record w)) 11 (own_refusal a (board_of w)))
  unfolding forward_refusal
  rest = rw (ready_fits w h, ready_soundly w h)

  pub nothing_ahead : w.trail.ahead ≡ 0 → Back {A = ⊤} (forward w) (Err NothingAhead) w
  unfolding forward
  nothing_ahead e = given_refused (forward_refusal w) (redone a w) w NothingAhead (sym (rest ∙ rw (eq-eqb w.trail.ahead 0 e)))

  -- an action of a world that is ready: only its own numbers are left
  taken_is : (b : Action) → taken b w ≡ answered (own_refusal b (board_of w)) (acted b w) w
  unfolding step stepped ticked
  taken_is (Step keys random) = rw (step_own_law w h)
  taken_is Tick = tick_done w h

  module _ (some : w.trail.ahead ≡ 0 → ⊥) where
    pub kind_unknown : kind_sound (next_record w) ≡ false → Back {A = ⊤} (forward w) (Err Damaged) w
    unfolding forward
    kind_unknown d =
        given_refused (forward_refusal w) (redone a w) w Damaged (sym (rest ∙ rw (ne_eqb w.trail.ahead 0 some, d)))

    own : kind_sound (next_record w) ≡ true → forward_refusal w ≡ own_refusal a (board_of w)
    own k = rest ∙ rw (ne_eqb w.trail.ahead 0 some, k)

    -- what the action gives, the step forward gives, with one less ahead where it was accepted
    pub redo_gives : kind_sound (next_record w) ≡ true → {A : Type 0} (x : A) (m : Machine) (t : Trail) (mem pic his : List ℕ)
        → Gives (taken a w) (Ok x) m t mem pic his
        → Gives (forward w) (Ok x) m (record { next = t.next; kept = t.kept; ahead = w.trail.ahead - 1 }) mem pic his
    unfolding forward redone
    redo_gives k x m t mem pic his g =
        let n = own_refusal a (board_of w) in
        let d = rw (taken_is a) at g in
        let none : n ≡ 0 = sym (answer_number n _ w) ∙ sym d.says in
        let e = rw (eq-eqb n 0 none) at d in
        rw (own k, eq-eqb n 0 none)
        (record {
          says = refl;
          machine = e.machine;
          trail = ap (λ (q : Trail). record { next = q.next; kept = q.kept; ahead = w.trail.ahead - 1 }) e.trail;
          memory = e.memory;
          picture = e.picture;
          history = e.history;
        })

    pub redo_refused : kind_sound (next_record w) ≡ true → {A : Type 0} (r : Refusal) (m : Machine) (t : Trail) (mem pic his : List ℕ)
        → Gives {A = A} (taken a w) (Err r) m t mem pic his → Gives {A = A} (forward w) (Err r) m t mem pic his
    unfolding forward redone
    redo_refused k r m t mem pic his g =
        let n = own_refusal a (board_of w) in
        let d = rw (taken_is a) at g in
        let some_n : n ≡ 0 → ⊥ = λ z. some_number r (d.says ∙ answer_number n _ w ∙ z) in
        let e = rw (ne_eqb n 0 some_n) at d in
        rw (own k, ne_eqb n 0 some_n)
        (record { says = e.says; machine = e.machine; trail = e.trail; memory = e.memory; picture = e.picture; history = e.history })
