-- What lasts: where each accepted act leaves something true of the world, each call does, also a run and a play, which make many.
use mathlib.Core.Path.{◌≡◌}
use mathlib.Core.List.{List, [], ◌∷◌}
use Prim.Native.Nat.{ℕ, zero, suc, ◌+◌}
use lib.Dec.{eqb}
use Rattle.rules.specs.World.{World, Answer, answered}
use Rattle.rules.specs.Call.{step, step_refusal, stepped, tick, tick_refusal, ticked}
use Rattle.rules.specs.Call.{back, back_refusal, last_record, undone, forward, forward_refusal, next_record, redone}
use Rattle.rules.specs.Record.{action_at}
use Rattle.rules.specs.Run.{Move, a_step, a_tick, a_back, a_forward, made, play_from, ticked_by, run_from, run_refusal, run, Ran}
use Rattle.rules.specs.Run.{moves_of, play_refusal, play, EachCall}
use Rattle.rules.proofs.Choices.{choice, by_test}

pub record Lasts (P : World → Type 0) : Type 0 where
  pub step : (keys random : ℕ) (w : World) → step_refusal w ≡ 0 → P w → P (stepped keys random w)
  pub tick : (w : World) → P w → P (ticked w)
  pub back : (w : World) → back_refusal w ≡ 0 → P w → P (undone (last_record w) w)
  pub forward : (w : World) → forward_refusal w ≡ 0 → P w → P (redone (action_at (next_record w)) w)

module _ (P : World → Type 0) (l : Lasts P) where
  -- the new world where nothing is refused, and else the world as it came
  answer_lasts : (refusal : ℕ) (new w : World) → (refusal ≡ 0 → P new) → P w → P (answered refusal new w).world
  answer_lasts refusal new w n h = by_test (λ (a : Answer). P a.world) refusal 0 n (λ ne. h)

  pub made_lasts : (m : Move) (w : World) → P w → P (made m w).world
  unfolding step tick back forward
  made_lasts (a_step keys random) w h = answer_lasts (step_refusal w) (stepped keys random w) w (λ e. l.step keys random w e h) h
  made_lasts a_tick w h = answer_lasts (tick_refusal w) (ticked w) w (λ e. l.tick w h) h
  made_lasts a_back w h = answer_lasts (back_refusal w) (undone (last_record w) w) w (λ e. l.back w e h) h
  made_lasts a_forward w h = answer_lasts (forward_refusal w) (redone (action_at (next_record w)) w) w (λ e. l.forward w e h) h

  pub ticks_last : (n : ℕ) (w : World) → P w → P (ticked_by n w)
  ticks_last zero w h = h
  ticks_last (suc n) w h = ticks_last n (ticked w) (l.tick w h)

  pub runs_last : (n : ℕ) (ts ks rs : List ℕ) (w : World) → P w → P (run_from n ts ks rs w).answer.world
  unfolding run_from
  runs_last n [] ks rs w h = h
  runs_last n (t ∷ ts) [] rs w h = h
  runs_last n (t ∷ ts) (k ∷ ks) [] w h = h
  runs_last n (t ∷ ts) (k ∷ ks) (r ∷ rs) w h =
      let a = step k r (ticked_by t w) in
      let next = made_lasts (a_step k r) (ticked_by t w) (ticks_last t w h) in
      choice (λ (q : Ran). P q.answer.world) (eqb a.refusal 0) (runs_last (n + 1) ts ks rs a.world next) next

  pub plays_last : (moves : List Move) (a : Answer) → P a.world → P (play_from moves a).world
  unfolding play_from
  plays_last [] a h = h
  plays_last (m ∷ ms) a h = plays_last ms (made m a.world) (made_lasts m a.world h)

  pub each_lasts : EachCall (λ call. (w : World) → P w → P (call w).world)
  unfolding run play
  each_lasts =
      record {
        step = λ keys random. made_lasts (a_step keys random);
        tick = made_lasts a_tick;
        back = made_lasts a_back;
        forward = made_lasts a_forward;
        run = λ ticks keys randoms w h. choice (λ (q : Ran). P q.answer.world) (eqb (run_refusal ticks keys randoms w) 0) (runs_last 0 ticks keys randoms w h) h;
        play = λ moves keys randoms w h. choice (λ (a : Answer). P a.world) (eqb (play_refusal moves keys randoms w) 0) (plays_last (moves_of moves keys randoms) _ h) h;
      }

-- what a claim on any call gives, given of each
pub each_map : {P Q : (World → Answer) → Type 0} → ((call : World → Answer) → P call → Q call) → EachCall P → EachCall Q
each_map f e =
    record {
      step = λ keys random. f _ (e.step keys random);
      tick = f _ e.tick;
      back = f _ e.back;
      forward = f _ e.forward;
      run = λ ticks keys randoms. f _ (e.run ticks keys randoms);
      play = λ moves keys randoms. f _ (e.play moves keys randoms);
    }

-- what lasts of the world that a call is given
pub each_from : (P : World → World → Type 0) → ((w : World) → Lasts (P w)) → ((w : World) → P w w)
    → EachCall (λ call. (w : World) → P w (call w).world)
each_from P l h =
    let each : (w : World) → EachCall (λ call. (v : World) → P w v → P w (call v).world) = λ w. each_lasts (P w) (l w) in
    record {
      step = λ keys random w. (each w).step keys random w (h w);
      tick = λ w. (each w).tick w (h w);
      back = λ w. (each w).back w (h w);
      forward = λ w. (each w).forward w (h w);
      run = λ ticks keys randoms w. (each w).run ticks keys randoms w (h w);
      play = λ moves keys randoms w. (each w).play moves keys randoms w (h w);
    }
