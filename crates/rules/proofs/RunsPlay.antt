-- The proof that a run gives what a play of its ticks and steps gives (Past), and that these are typed: no tick of it is refused.
use mathlib.Core.Path.{◌≡◌, refl, sym, ap, ◌∙◌}
use mathlib.Core.Bool.{Bool, true, false}
use mathlib.Core.List.{List, [], ◌∷◌}
use Prim.Native.Nat.{ℕ, zero, suc, ◌+◌}
use lib.Dec.{eqb}
use borrow.Author.Tests.{le-leb, eqb-true, eq-eqb}
use Rattle.rules.specs.Number.{pick}
use Rattle.rules.specs.World.{World, Answer}
use Rattle.rules.specs.Call.{step, tick, ticked, tick_refusal}
use Rattle.rules.specs.Run.{Move, a_step, play_from, unrefused, ticked_by, run_from, run_refusal, run, lists_fit, Ran, moves_of}
use Rattle.rules.specs.Typed.{Below, more, TypedMove, TypedMoves}
use Rattle.rules.specs.Past.{ticks_then, moves_run, RunsPlay, RunsTyped}
use Rattle.rules.proofs.Choices.{choice, and_both}
use Rattle.rules.proofs.Ready.{Ready, ready_soundly, step_ready, ticked_ready, ticks_ready}
use Rattle.rules.proofs.Given.{tested_ready, answered_done}

pub tick_done : (w : World) → Ready w → tick w ≡ unrefused (ticked w)
unfolding tick tick_refusal
tick_done w h =
    answered_done (tick_refusal w) (ticked w) w (rw (and_both (le-leb _ _ h.least) (le-leb _ _ h.most), ready_soundly w h))

after_ticks : (n : ℕ) (ms : List Move) (w : World) → Ready w
    → play_from (ticks_then n ms) (unrefused w) ≡ play_from ms (unrefused (ticked_by n w))
unfolding play_from
after_ticks zero ms w h = refl
after_ticks (suc n) ms w h = ap (play_from (ticks_then n ms)) (tick_done w h) ∙ after_ticks n ms (ticked w) (ticked_ready w h)

-- an entry: its step is refused and ends the run, or the rest goes on from the world that it gave
entry_plays : (a : Answer) (later : Ran) (moves : List Move) (n : ℕ) → later.answer ≡ play_from moves (unrefused a.world)
    → (pick (eqb a.refusal 0) later (record { accepted = n; answer = a })).answer ≡ play_from (pick (eqb a.refusal 0) moves []) a
unfolding play_from
entry_plays a later moves n e = go (eqb a.refusal 0) refl
  where
    on : a.refusal ≡ 0 → unrefused a.world ≡ a
    on z = let back = sym z in λ i. record { refusal = back i; world = a.world }

    go : (b : Bool) → eqb a.refusal 0 ≡ b
        → (pick {A = Ran} b later (record { accepted = n; answer = a })).answer ≡ play_from (pick {A = List Move} b moves []) a
    go true z = e ∙ ap (play_from moves) (on (eqb-true a.refusal 0 z))
    go false z = refl

plays : (n : ℕ) (ts ks rs : List ℕ) (w : World) → Ready w → (run_from n ts ks rs w).answer ≡ play_from (moves_run ts ks rs w) (unrefused w)
unfolding run_from moves_run play_from
plays n [] ks rs w h = refl
plays n (t ∷ ts) [] rs w h = refl
plays n (t ∷ ts) (k ∷ ks) [] w h = refl
plays n (t ∷ ts) (k ∷ ks) (r ∷ rs) w h =
    let a = step k r (ticked_by t w) in
    entry_plays a (run_from (n + 1) ts ks rs a.world) (moves_run ts ks rs a.world) n
    (plays (n + 1) ts ks rs a.world (step_ready (ticked_by t w) (ticks_ready t w h) k r))
    ∙ sym (after_ticks t (a_step k r ∷ pick (eqb a.refusal 0) (moves_run ts ks rs a.world) []) w h)

pub runs_play : RunsPlay
unfolding run run_refusal
runs_play ticks keys randoms w typed e =
    rw (eq-eqb (run_refusal ticks keys randoms w) 0 e) (plays 0 ticks keys randoms w (tested_ready w (lists_fit ticks keys randoms) typed e))

-- ---- the moves are typed where the lists are

ticks_typed : (n : ℕ) (ms : List Move) → TypedMoves ms → TypedMoves (ticks_then n ms)
ticks_typed zero ms t = t
ticks_typed (suc n) ms t = (tt, ticks_typed n ms t)

pub runs_typed : RunsTyped
unfolding moves_run
runs_typed [] ks rs w keys randoms = tt
runs_typed (t ∷ ts) [] rs w keys randoms = tt
runs_typed (t ∷ ts) (k ∷ ks) [] w keys randoms = tt
runs_typed (t ∷ ts) (k ∷ ks) (r ∷ rs) w (more key keys) (more random randoms) =
    let a = step k r (ticked_by t w) in
    ticks_typed t _ ((key, random), choice TypedMoves (eqb a.refusal 0) (runs_typed ts ks rs a.world keys randoms) tt)

pub plays_typed : (moves keys randoms : List ℕ) → Below 65536 keys → Below 256 randoms → TypedMoves (moves_of moves keys randoms)
unfolding moves_of
plays_typed [] ks rs keys randoms = tt
plays_typed (b ∷ bs) [] rs keys randoms = tt
plays_typed (b ∷ bs) (k ∷ ks) [] keys randoms = tt
plays_typed (b ∷ bs) (k ∷ ks) (r ∷ rs) (more key keys) (more random randoms) = (
  choice TypedMove (eqb b 0) (key, random) (choice TypedMove (eqb b 1) tt (choice TypedMove (eqb b 2) tt tt)),
  plays_typed bs ks rs keys randoms,
)
