-- The proofs of what Profile claims of the calls: where the sizes last, each call is the same with other bytes above the end.
use mathlib.Core.Path.{◌≡◌, refl, sym, ap, ◌∙◌, subst}
use mathlib.Core.Bool.{Bool, true, false, not}
use mathlib.Core.List.{List, [], ◌∷◌, ◌++◌}
use Prim.Native.Nat.{ℕ, zero, suc, ◌+◌, ◌-◌, ◌*◌, ◌≤◌}
use native.Mathlib.Omega.{arith}
use lib.ListN.{drop, length, length-drop, length-append, take-append-drop}
use lib.Seq.{drop-append-add}
use lib.Dec.{eqb}
use borrow.Author.Tests.{eqb-true}
use Rattle.rules.specs.declared.Action.{Action}
use Rattle.rules.specs.declared.Action.TheVariants.{Step}
use Rattle.rules.specs.Number.{pick, unless}
use Rattle.rules.specs.State.{Chosen}
use Rattle.rules.specs.Memory.{over}
use Rattle.rules.specs.Record.{action_at, change_at, kind_sound}
use Rattle.rules.specs.World.{World, Answer, world, with_ahead, board_of, places, buffers_fit, soundly, answered}
use Rattle.rules.specs.Load.{digits, end_of, loaded_memory, load, load_refusal}
use Rattle.rules.specs.Call.{board_by, own_refusal, grown, record_by, acted, step, step_refusal, stepped, tick, tick_refusal, ticked}
use Rattle.rules.specs.Call.{back, back_refusal, last_record, undone, forward, forward_refusal, next_record, redone}
use Rattle.rules.specs.Run.{Move, a_step, a_tick, a_back, a_forward, made, play_from, ticked_by, run_from, run_refusal, run, Ran}
use Rattle.rules.specs.Run.{moves_of, play_refusal, play, unrefused}
use Rattle.profile.specs.Profile.{above, with_above, answer_above, Sixteen, NotWritten, NotRead, LoadEnds, LoadClears, AboveKept, AboveUnread}
use Rattle.rules.proofs.Choices.{choice, by_test}
use Rattle.rules.proofs.Good.{GoodEnd}
use Rattle.rules.proofs.Parts.{zeroes, part_length, drop_zeros}
use Rattle.rules.proofs.Sound.{sound_parts, end_good}
use Rattle.rules.proofs.Still.{action_chosen}
use Rattle.rules.proofs.Ready.{fits_passed, soundly_passed, step_accepted, back_accepted, forward_accepted, last_sized, last_usable, forward_own}
use Rattle.rules.proofs.Load.{load_passed}
use Rattle.rules.proofs.Each.{Lasts, made_lasts, ticks_last, each_map}
use Rattle.profile.proofs.Alike.{pick_along, unless_same}
use Rattle.profile.proofs.Above.{topped_length, topped_drop, topped_board, action_sized, own_topped, board_topped, record_topped, memory_sized, memory_topped}

-- ---- what a call finds that passed the tests 9 and 10

module _ (w : World) (fits : buffers_fit w ≡ true) (s : soundly w ≡ true) where
  pub good_end : GoodEnd w.machine.end
  good_end = end_good w.machine.end (sound_parts w.machine (soundly_passed w s).0).end

  pub room : w.machine.end ≤ length w.memory
  room = omega (arith, good_end.most, (fits_passed w fits).memory)

  pub two : 2 ≤ w.machine.end
  two = omega (arith, good_end.least)

-- ---- the sizes last

pub record Sized (e k : ℕ) (w : World) : Type 0 where
  pub end : w.machine.end ≡ e
  pub sixteen : Sixteen w
  pub memory : length w.memory ≡ k

module _ (e k : ℕ) where
  acted_sized : (a : Action) (w : World) → buffers_fit w ≡ true → soundly w ≡ true → own_refusal a (board_of w) ≡ 0 → Sized e k w
      → Sized e k (acted a w)
  acted_sized a w fits s own h =
      let sizes = action_sized (board_of w) (room w fits s) h.sixteen (two w fits s) a own in
      record {
        end = ap (λ (c : Chosen). c.end) (action_chosen a (board_of w)) ∙ h.end;
        sixteen = sizes.0;
        memory = sizes.1 ∙ h.memory;
      }

  step_sized : (keys random : ℕ) (w : World) → step_refusal w ≡ 0 → Sized e k w → Sized e k (stepped keys random w)
  unfolding stepped
  step_sized keys random w q h = let a = step_accepted w q in acted_sized (Step keys random) w a.fits a.sound a.rest h

  tick_sized : (w : World) → Sized e k w → Sized e k (ticked w)
  unfolding ticked
  tick_sized w h = record { end = h.end; sixteen = h.sixteen; memory = h.memory }

  back_sized : (w : World) → back_refusal w ≡ 0 → Sized e k w → Sized e k (undone (last_record w) w)
  unfolding undone
  back_sized w q h =
      let a = back_accepted w q in
      let r = last_record w in
      let place = last_sized w (soundly_passed w a.sound).1 in
      record {
        end = h.end;
        sixteen = part_length r 2 16 (omega arith);
        memory = memory_sized w.machine.end w.memory r (room w a.fits a.sound) place (change_at r) (last_usable w q).fits ∙ h.memory;
      }

  forward_sized : (w : World) → forward_refusal w ≡ 0 → Sized e k w → Sized e k (redone (action_at (next_record w)) w)
  unfolding redone
  forward_sized w q h =
      let a = forward_accepted w q in
      let z = acted_sized (action_at (next_record w)) w a.fits a.sound (forward_own w q) h in
      record { end = z.end; sixteen = z.sixteen; memory = z.memory }

  pub sized_lasts : Lasts (Sized e k)
  sized_lasts = record { step = step_sized; tick = tick_sized; back = back_sized; forward = forward_sized }

-- ---- one call, with other bytes above the end

module _ (w : World) (sixteen : Sixteen w) (j : List ℕ) (long : length j ≡ length (above w.machine.end w)) where
  abbrev e : ℕ
  e = w.machine.end

  abbrev v : World
  v = with_above e j w

  -- the tests 9 and 10 say the same, and so do later ones that do
  tests_same : (x y : ℕ) → (buffers_fit w ≡ true → soundly w ≡ true → x ≡ y)
      → unless (buffers_fit v) 9 (unless (soundly w) 10 x) ≡ unless (buffers_fit w) 9 (unless (soundly w) 10 y)
  tests_same x y h =
      rw (topped_length e j w.memory long) (unless_same (buffers_fit w) 9 λ fits. unless_same (soundly w) 10 (h fits))

  -- an answer is the same where its number is, and the new world where it is accepted
  answer_same : (n n' : ℕ) (new new' : World) → n' ≡ n → (n ≡ 0 → new' ≡ with_above e j new)
      → answered n' new' v ≡ answer_above e j (answered n new w)
  answer_same n n' new new' q h = rw q (go (eqb n 0) refl)
    where
      go : (t : Bool) → eqb n 0 ≡ t
          → pick {A = Answer} t (record { refusal = 0; world = new' }) (record { refusal = n; world = v })
          ≡ answer_above e j (pick {A = Answer} t (record { refusal = 0; world = new }) (record { refusal = n; world = w }))
      go true z = ap (λ (x : World). record { refusal = 0; world = x }) (h (eqb-true n 0 z))
      go false z = refl

  module _ (fits : buffers_fit w ≡ true) (s : soundly w ≡ true) where
    own_same : (a : Action) → own_refusal a (board_of v) ≡ own_refusal a (board_of w)
    own_same = own_topped (board_of w) (room w fits s) sixteen (two w fits s) j

    acted_same : (a : Action) → own_refusal a (board_of w) ≡ 0 → acted a v ≡ with_above e j (acted a w)
    acted_same a own =
        let b : board_by a (board_of v) ≡ topped_board e j (board_by a (board_of w)) =
        board_topped (board_of w) (room w fits s) sixteen (two w fits s) j a own in
        let r : record_by a (board_of v) ≡ record_by a (board_of w) =
        record_topped (board_of w) (room w fits s) sixteen (two w fits s) j a own in
        λ i. world (b i).machine (grown (places w.history) w.trail) (b i).memory (b i).picture
        (over w.history (292 * w.trail.next) (r i) 292)

  pub refusal_same : step_refusal v ≡ step_refusal w
  unfolding step_refusal
  refusal_same = tests_same _ _ (λ fits s. own_same fits s (Step 0 0))

  step_same : (keys random : ℕ) → step keys random v ≡ answer_above e j (step keys random w)
  unfolding step stepped
  step_same keys random =
      answer_same (step_refusal w) (step_refusal v) (stepped keys random w) (stepped keys random v) refusal_same
      (λ q. let a = step_accepted w q in acted_same a.fits a.sound (Step keys random) a.rest)

  tick_same : tick v ≡ answer_above e j (tick w)
  unfolding tick tick_refusal ticked
  tick_same = answer_same (tick_refusal w) (tick_refusal v) (ticked w) (ticked v) refl (λ q. refl)

  back_same : back v ≡ answer_above e j (back w)
  unfolding back back_refusal undone
  back_same =
      answer_same (back_refusal w) (back_refusal v) (undone (last_record w) w) (undone (last_record w) v) (tests_same _ _ (λ fits s. refl)) put
    where
      put : back_refusal w ≡ 0 → undone (last_record w) v ≡ with_above e j (undone (last_record w) w)
      put q =
          let a = back_accepted w q in
          let r = last_record w in
          let place = last_sized w (soundly_passed w a.sound).1 in
          let memory = memory_topped e w.memory r (room w a.fits a.sound) place j (change_at r) (last_usable w q).fits in
          let u = undone r w in
          λ i. world u.machine u.trail (memory i) u.picture u.history

  forward_same : forward v ≡ answer_above e j (forward w)
  unfolding forward forward_refusal redone
  forward_same =
      let a = action_at (next_record w) in
      answer_same (forward_refusal w) (forward_refusal v) (redone a w) (redone a v)
      (tests_same _ _ λ fits s. ap (λ (n : ℕ). unless (not (eqb w.trail.ahead 0)) 12 (unless (kind_sound (next_record w)) 11 n)) (own_same fits s a))
      (λ q. let f = forward_accepted w q in ap (with_ahead (w.trail.ahead - 1)) (acted_same f.fits f.sound a (forward_own w q)))

  move_same : (m : Move) → made m v ≡ answer_above e j (made m w)
  move_same (a_step keys random) = step_same keys random
  move_same a_tick = tick_same
  move_same a_back = back_same
  move_same a_forward = forward_same

-- ---- many of them

-- what a run gives, with other bytes there
abbrev ran_above : ℕ → List ℕ → Ran → Ran
ran_above e j r = record { accepted = r.accepted; answer = answer_above e j r.answer }

module _ (e k : ℕ) (j : List ℕ) (long : length j ≡ k - e) where
  pub made_same : (m : Move) (w : World) → Sized e k w → made m (with_above e j w) ≡ answer_above e j (made m w)
  made_same m w h =
      subst (λ (e : ℕ). length j ≡ length (above e w) → made m (with_above e j w) ≡ answer_above e j (made m w)) h.end
      (λ l. move_same w h.sixteen j l m) (omega (arith, length-drop e w.memory, h.memory))

  pub ticks_same : (n : ℕ) (w : World) → ticked_by n (with_above e j w) ≡ with_above e j (ticked_by n w)
  unfolding ticked
  ticks_same zero w = refl
  ticks_same (suc n) w = ticks_same n (ticked w)

  runs_same : (n : ℕ) (ts ks rs : List ℕ) (w : World) → Sized e k w → run_from n ts ks rs (with_above e j w) ≡ ran_above e j (run_from n ts ks rs w)
  unfolding run_from
  runs_same n [] ks rs w h = refl
  runs_same n (t ∷ ts) [] rs w h = refl
  runs_same n (t ∷ ts) (x ∷ ks) [] w h = refl
  runs_same n (t ∷ ts) (x ∷ ks) (r ∷ rs) w h =
      let u = ticked_by t w in
      let a = step x r u in
      let sized = ticks_last (Sized e k) (sized_lasts e k) t w h in
      let same : step x r (ticked_by t (with_above e j w)) ≡ answer_above e j a = ap (step x r) (ticks_same t w) ∙ made_same (a_step x r) u sized in
      ap (λ (c : Answer). pick (eqb c.refusal 0) (run_from (n + 1) ts ks rs c.world) (record { accepted = n; answer = c })) same
      ∙ pick_along (ran_above e j) (eqb a.refusal 0)
      (runs_same (n + 1) ts ks rs a.world (made_lasts (Sized e k) (sized_lasts e k) (a_step x r) u sized)) refl

  plays_same : (ms : List Move) (a : Answer) → Sized e k a.world → play_from ms (answer_above e j a) ≡ answer_above e j (play_from ms a)
  unfolding play_from
  plays_same [] a h = refl
  plays_same (m ∷ ms) a h =
      ap (play_from ms) (made_same m a.world h)
      ∙ plays_same ms (made m a.world) (made_lasts (Sized e k) (sized_lasts e k) m a.world h)

-- ---- THE CLAIMS

pub load_ends : LoadEnds
unfolding load
load_ends edition end program memory picture history =
    choice (λ (a : Answer). a.world.machine.end ≡ end_of end) (eqb (load_refusal end program memory picture history) 0) refl refl

clear_above : (end : ℕ) (program : List ℕ) → GoodEnd end → length program ≤ end - 512 → drop end (loaded_memory program) ≡ zeroes (4096 - end)
unfolding loaded_memory
clear_above end program g short =
    let front = digits ++ zeroes 432 ++ program in
    let left = 3584 - length program in
    let size : length front ≡ 512 + length program = simp length-append in
    let beyond : end ≡ length front + (end - length front) = omega arith in
    ap (λ (n : ℕ). drop n (front ++ zeroes left)) beyond ∙ drop-append-add front (zeroes left) (end - length front)
    ∙ drop_zeros (end - length front) left ∙ ap zeroes {x = left - (end - length front)} {y = 4096 - end} (omega arith)

pub load_clears : LoadClears
unfolding load
load_clears edition end program memory picture history =
    by_test (λ (a : Answer). a.refusal ≡ 0 → (a.world.machine.end ≡ end) × (above end a.world ≡ zeroes (4096 - end)))
    (load_refusal end program memory picture history) 0
    (λ e _. let (sizes, in_use, short) = load_passed end program memory picture history e in
    (rw in_use, clear_above end program (end_good end in_use) short))
    (λ ne e. absurd (ne e))

module _ (w : World) (s : Sixteen w) (j : List ℕ) (l : length j ≡ length (above w.machine.end w)) where
  pub sized : Sized w.machine.end (length w.memory) w
  sized = record { end = refl; sixteen = s; memory = refl }

  pub long : length j ≡ length w.memory - w.machine.end
  long = l ∙ length-drop w.machine.end w.memory

  pub run_same : (ticks keys randoms : List ℕ)
      → run ticks keys randoms (with_above w.machine.end j w) ≡ ran_above w.machine.end j (run ticks keys randoms w)
  unfolding run run_refusal
  run_same ticks keys randoms =
      rw (topped_length w.machine.end j w.memory l)
      (pick_along (ran_above w.machine.end j) (eqb (run_refusal ticks keys randoms w) 0)
      (runs_same w.machine.end (length w.memory) j long 0 ticks keys randoms w sized) refl)

  play_same : (moves keys randoms : List ℕ)
      → play moves keys randoms (with_above w.machine.end j w) ≡ answer_above w.machine.end j (play moves keys randoms w)
  unfolding play play_refusal
  play_same moves keys randoms =
      rw (topped_length w.machine.end j w.memory l)
      (pick_along (answer_above w.machine.end j) (eqb (play_refusal moves keys randoms w) 0)
      (plays_same w.machine.end (length w.memory) j long (moves_of moves keys randoms) (unrefused w) sized) refl)

pub above_unread : AboveUnread
above_unread =
    record {
      step = λ keys random w s j l. step_same w s j l keys random;
      tick = tick_same;
      back = back_same;
      forward = forward_same;
      run = λ ticks keys randoms w s j l. ap (λ (r : Ran). r.answer) (run_same w s j l ticks keys randoms);
      play = λ moves keys randoms w s j l. play_same w s j l moves keys randoms;
    }

-- a call that does not read there does not write there
unread_unwritten : (call : World → Answer) → NotRead call → NotWritten call
unread_unwritten call unread w s =
    let e = w.machine.end in
    let j = above e w in
    let whole = take-append-drop e w.memory in
    let same : with_above e j w ≡ w = λ i. world w.machine w.trail (whole i) w.picture w.history in
    let a : call w ≡ answer_above e j (call w) = ap call (sym same) ∙ unread w s j refl in
    topped_drop e j (call w).world.memory (ap (λ (a : Answer). a.world.memory) a)

pub above_kept : AboveKept
above_kept = each_map unread_unwritten above_unread
