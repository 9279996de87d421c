-- The proof of the steps back and forward (Past): the records that are kept stand between the boards from the finger down, and those that
-- are ahead between the boards from the finger up.
use mathlib.Core.Path.{◌≡◌, refl, sym, ap, ◌∙◌, subst}
use mathlib.Core.Bool.{Bool, true, false, not}
use mathlib.Core.List.{List, [], ◌∷◌}
use Prim.Native.Nat.{ℕ, suc, ◌+◌, ◌-◌, ◌*◌, ◌≤◌, ◌<◌, min}
use native.Mathlib.Omega.{arith}
use native.Mathlib.Numerals.{add-one}
use lib.ListN.{length, get_or, drop, length-drop}
use lib.Dec.{eqb}
use borrow.Author.Tests.{eqb-false, ne_eqb}
use Rattle.rules.specs.declared.Action.{Action}
use Rattle.rules.specs.declared.Action.TheVariants.{Step, Tick}
use Rattle.rules.specs.declared.Trail.{Trail}
use Rattle.rules.specs.Number.{pick, unless}
use Rattle.rules.specs.State.{Chosen, chosen, end_sound}
use Rattle.rules.specs.Memory.{part}
use Rattle.rules.specs.Record.{action_at}
use Rattle.rules.specs.Step.{Board}
use Rattle.rules.specs.World.{World, Answer, world, board_of, places, answered}
use Rattle.rules.specs.Call.{board_by, own_refusal, next_place, place_before, record_by, written, acted, step, stepped, step_refusal}
use Rattle.rules.specs.Call.{tick, ticked, tick_refusal, back, back_refusal, last_record, undone}
use Rattle.rules.specs.Call.{forward, forward_refusal, next_record, redone}
use Rattle.rules.specs.Run.{Move, a_step, a_tick, a_back, a_forward, made, play_from, unrefused}
use Rattle.rules.specs.Typed.{TypedBoard, TypedAction, TypedMove, TypedMoves}
use Rattle.rules.specs.Past.{Past, added, moved_down, moved_up, noted, follow, first, Start, Told, StepsBack}
use Rattle.rules.specs.Lit.{TrueLit}
use Rattle.rules.proofs.Choices.{by_test}
use Rattle.rules.proofs.Lit.{lit_lasts}
use Rattle.rules.proofs.Each.{plays_last}
use Rattle.rules.proofs.Good.{GoodBoard}
use Rattle.rules.proofs.Parts.{part_over_same, put_back}
use Rattle.rules.proofs.Undo.{Restores}
use Rattle.rules.proofs.Link.{Link, leads_good, restores, same_chosen, kind_known, again}
use Rattle.rules.proofs.Given.{answer_number}
use Rattle.rules.proofs.Chain.{Behind, Ahead, done, push_behind, push_ahead, pop, chain_less, round, chain_over}
use Rattle.rules.proofs.Ready.{Ready, start_ready, ready_fits, ready_soundly, next_below, before_below, record_sized, as_long, acted_ready, step_own_law}

record Holds (r : ℕ) (w : World) (p : Past) : Type 0 where
  finger : board_of w ≡ p.finger
  kept : w.trail.kept ≡ p.kept
  ahead : w.trail.ahead ≡ p.ahead
  above : w.trail.ahead ≡ length p.above
  ready : Ready w
  room : places w.history ≡ r
  backward : Behind w.history r w.trail.next w.trail.kept (board_of w) p.below
  forward : Ahead w.history r w.trail.next w.trail.ahead (board_of w) p.above

-- ---- what is refused where the numbers say that nothing is there

refused_by : (z : Bool) (number later : ℕ) → (z ≡ false → later ≡ 0) → unless (not z) number later ≡ pick z number 0
refused_by true number later h = refl
refused_by false number later h = h refl

not_none : (k number : ℕ) → pick {A = ℕ} (eqb k 0) (suc number) 0 ≡ 0 → 0 < k
not_none k number e = by_test (λ (n : ℕ). n ≡ 0 → 0 < k) k 0 (λ z n. omega arith) (λ z n. omega arith) e

-- ---- each move keeps what holds

module _ (r : ℕ) (w : World) (p : Past) (hold : Holds r w p) where
  abbrev ready : Ready w
  ready = hold.ready

  abbrev b : Board
  b = board_of w

  abbrev h : List ℕ
  h = w.history

  abbrev n : ℕ
  n = w.trail.next

  next : n < r
  next = omega (arith, ready.next, hold.room)

  -- an accepted step or tick
  act_holds : (a : Action) → TypedAction a → own_refusal a b ≡ 0 → Holds r (acted a w) (added r (board_by a) p)
  act_holds a typed accepted =
      record {
        finger = ap (board_by a) hold.finger;
        kept = by_test (λ (q : ℕ). q ≡ min r (p.kept + 1)) w.trail.kept (places h)
            (λ e. omega (arith, hold.kept, hold.room)) (λ e. omega (arith, hold.kept, hold.room, ready.limit));
        ahead = refl;
        above = refl;
        ready = acted_ready w ready a accepted 0 (omega arith);
        room = rw (as_long w ready a accepted) hold.room;
        backward = by_test Longer w.trail.kept (places h) full
            (λ e. rw (add-one w.trail.kept) (linked w.trail.kept (omega (arith, ready.limit, hold.room)) hold.backward));
        forward = done;
      }
    where
      Longer : ℕ → Type 0
      Longer k = Behind (written a w) r (next_place (places h) n) k (board_by a b) (p.finger ∷ p.below)

      sized : length (record_by a b) ≡ 292
      sized = record_sized w ready a accepted

      new : Link (part (written a w) (292 * n) 292) b (board_by a b)
      new =
          record {
            action = a;
            typed = typed;
            good = ready.good;
            accepted = accepted;
            is = part_over_same h (record_by a b) (292 * n) 292 (omega (arith, hold.room, next)) sized;
            leads = refl;
          }

      -- the new record in front of the old ones, of which it overwrote none
      linked : (k : ℕ) → k < r → Behind h r n k b p.below → Longer (suc k)
      linked k few ch =
          rw hold.room
          (push_behind (written a w) r n next hold.finger new
          (chain_over h (record_by a b) r n sized (omega (arith, hold.room)) next next (round (omega arith) (omega arith)) ch))

      -- where all places are kept, the eldest record is the one that was overwritten
      full : w.trail.kept ≡ places h → Longer (places h)
      full e =
          subst Longer {x = suc (r - 1)} {y = places h} (omega (arith, next, hold.room))
          (linked (r - 1) (omega (arith, next))
          (chain_less
          (subst (λ (q : ℕ). Behind h r n q b p.below) {x = w.trail.kept} {y = suc (r - 1)}
          (omega (arith, next, hold.room)) hold.backward)))

  -- another board with other numbers, beside the history as it is
  abbrev standing : Board → Trail → World
  standing c t = world c.machine t c.memory c.picture h

  standing_ready : (c : Board) (t : Trail) → GoodBoard c → chosen c.machine ≡ chosen w.machine → t.next < r → t.kept + t.ahead ≤ r
      → Ready (standing c t)
  standing_ready c t good same below limit =
      record {
        good = good;
        end = ap (λ (c : Chosen). end_sound c.end) same ∙ ready.end;
        least = ready.least;
        most = ready.most;
        next = rw hold.room below;
        limit = rw hold.room limit;
      }

  -- ---- a step back

  abbrev lower : Board
  lower = get_or p.below 0 p.finger

  -- the record that it reads, and the records behind that one
  abbrev Down : Type 0
  Down = Link (part h (292 * place_before r n) 292) lower b × Behind h r (place_before r n) (w.trail.kept - 1) lower (drop 1 p.below)

  first_down : 0 < w.trail.kept → Down
  first_down some = pop p.finger some hold.backward

  back_is : back_refusal w ≡ pick (eqb w.trail.kept 0) 7 0
  unfolding back_refusal
  back_is =
      rw (ready_fits w ready, ready_soundly w ready)
      (refused_by (eqb w.trail.kept 0) 7 _ λ e.
      let (l, rest) = first_down (omega (arith, eqb-false w.trail.kept 0 e)) in
      rw (hold.room, (restores l).intact) (restores l).late)

  back_holds : back_refusal w ≡ 0 → Holds r (undone (last_record w) w) (moved_down p)
  unfolding undone
  back_holds e =
      subst (λ (v : World). Holds r v (moved_down p)) (sym same)
      (record {
        finger = refl;
        kept = ap (λ (k : ℕ). k - 1) hold.kept;
        ahead = ap (λ (k : ℕ). k + 1) hold.ahead;
        above = omega (arith, hold.above);
        ready = standing_ready lower t last.0.good (same_chosen last.0) (before_below r n next) (omega (arith, ready.limit, hold.room, some));
        room = hold.room;
        backward = last.1;
        forward = rw (add-one w.trail.ahead) (push_ahead h r n next hold.finger last.0 hold.forward);
      })
    where
      some : 0 < w.trail.kept
      some = not_none w.trail.kept 6 (sym back_is ∙ e)

      last : Down
      last = first_down some

      undoes : Restores (last_record w) b lower
      undoes = rw hold.room (restores last.0)

      t : Trail
      t = record { next = place_before r n; kept = w.trail.kept - 1; ahead = w.trail.ahead + 1 }

      same : undone (last_record w) w ≡ standing lower t
      same = λ i. record {
        machine = (undoes.board i).machine;
        trail = record { next = place_before (hold.room i) n; kept = t.kept; ahead = t.ahead };
        memory = (undoes.board i).memory;
        picture = (undoes.board i).picture;
        history = h;
      }

  -- ---- a step forward

  abbrev upper : Board
  upper = get_or p.above 0 p.finger

  -- the record that it reads, and the records ahead of that one
  abbrev Up : Type 0
  Up = Link (next_record w) b upper × Ahead h r (next_place r n) (w.trail.ahead - 1) upper (drop 1 p.above)

  first_up : 0 < w.trail.ahead → Up
  first_up some = pop p.finger some hold.forward

  forward_is : forward_refusal w ≡ pick (eqb w.trail.ahead 0) 12 0
  unfolding forward_refusal
  forward_is =
      rw (ready_fits w ready, ready_soundly w ready)
      (refused_by (eqb w.trail.ahead 0) 12 _ λ e.
      let (l, rest) = first_up (omega (arith, eqb-false w.trail.ahead 0 e)) in
      rw (kind_known l, again l) l.accepted)

  forward_holds : forward_refusal w ≡ 0 → Holds r (redone (action_at (next_record w)) w) (moved_up r p)
  unfolding redone
  forward_holds e =
      subst (λ (v : World). Holds r v (moved_up r p)) (sym same)
      (record {
        finger = refl;
        kept = omega (arith, hold.kept, ready.limit, hold.room, some);
        ahead = ap (λ (k : ℕ). k - 1) hold.ahead;
        above = rw length-drop (omega (arith, hold.above));
        ready = standing_ready upper t (leads_good last.0) (sym (same_chosen last.0)) (next_below r n next) (omega (arith, ready.limit, hold.room, some));
        room = hold.room;
        backward = rw (add-one w.trail.kept) (push_behind h r n next hold.finger last.0 hold.backward);
        forward = last.1;
      })
    where
      some : 0 < w.trail.ahead
      some = not_none w.trail.ahead 11 (sym forward_is ∙ e)

      last : Up
      last = first_up some

      -- the same bytes are written again
      unwritten : written last.0.action w ≡ h
      unwritten = rw (← last.0.is) (put_back h h (292 * n) 292 refl refl)

      t : Trail
      t = record { next = next_place r n; kept = w.trail.kept + 1; ahead = w.trail.ahead - 1 }

      one_more : pick (eqb w.trail.kept (places h)) (places h) (w.trail.kept + 1) ≡ t.kept
      one_more = rw (ne_eqb w.trail.kept (places h) (λ e. omega (arith, ready.limit, some)))

      same : redone (action_at (next_record w)) w ≡ standing upper t
      same = ap (λ (a : Action). redone a w) (again last.0) ∙ λ i. record {
        machine = (last.0.leads i).machine;
        trail = record { next = next_place (hold.room i) n; kept = one_more i; ahead = t.ahead };
        memory = (last.0.leads i).memory;
        picture = (last.0.leads i).picture;
        history = unwritten i;
      }

  -- ---- any move

  settled : (refusal : ℕ) (w₁ : World) (p₁ : Past) → (refusal ≡ 0 → Holds r w₁ p₁)
      → Holds r (answered refusal w₁ w).world (pick (eqb (answered refusal w₁ w).refusal 0) p₁ p)
  settled refusal w₁ p₁ k =
      by_test (λ (a : Answer). Holds r a.world (pick (eqb a.refusal 0) p₁ p)) refusal 0 k (λ ne. rw (ne_eqb refusal 0 ne) hold)

  move_holds : (m : Move) → TypedMove m → Holds r (made m w).world (pick (eqb (made m w).refusal 0) (noted r m p) p)
  unfolding step tick back forward stepped ticked
  move_holds (a_step keys random) typed =
      settled (step_refusal w) (stepped keys random w) (noted r (a_step keys random) p)
      λ e. act_holds (Step keys random) typed (sym (step_own_law w ready) ∙ e)
  move_holds a_tick typed = settled (tick_refusal w) (ticked w) (noted r a_tick p) (λ e. act_holds Tick typed refl)
  move_holds a_back typed = settled (back_refusal w) (undone (last_record w) w) (noted r a_back p) back_holds
  move_holds a_forward typed = settled (forward_refusal w) (redone (action_at (next_record w)) w) (noted r a_forward p) forward_holds

told : (start w : World) (p : Past) → Holds (places start.history) w p → (TrueLit start → TrueLit w) → Told start w p
unfolding back forward
told start w p h t =
    record {
      finger = h.finger;
      lit = t;
      kept = h.kept;
      ahead = h.ahead;
      above = h.above;
      most = omega (arith, h.ready.limit, h.room);
      back = answer_number (back_refusal w) _ w ∙ back_is _ w p h;
      forward = answer_number (forward_refusal w) _ w ∙ forward_is _ w p h;
    }

start_holds : (w : World) → TypedBoard (board_of w) → Start w → Holds (places w.history) w (first w)
start_holds w t s =
    record {
      finger = refl;
      kept = s.kept;
      ahead = s.ahead;
      above = s.ahead;
      ready = start_ready w t s.fits s.sound s.next (omega (arith, s.kept, s.ahead));
      room = refl;
      backward = rw s.kept done;
      forward = rw s.ahead done;
    }

all_holds : (r : ℕ) (moves : List Move) → TypedMoves moves → (a : Answer) (p : Past) → Holds r a.world p
    → Holds r (play_from moves a).world (follow r moves a.world p)
unfolding play_from
all_holds r [] typed a p h = h
all_holds r (m ∷ ms) typed a p h = all_holds r ms typed.1 (made m a.world) _ (move_holds r a.world p h m typed.0)

pub steps_back : StepsBack
steps_back w t s moves typed =
    told w _ _ (all_holds _ moves typed (unrefused w) _ (start_holds w t s)) (plays_last TrueLit lit_lasts moves (unrefused w))
