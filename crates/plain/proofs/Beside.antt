-- The history plays no part in a run: entry by entry, the world's board is the board alone.
use mathlib.Core.Path.{◌≡◌, refl, sym, subst}
use mathlib.Core.List.{List, [], ◌∷◌}
use Prim.Native.Nat.{ℕ, zero, suc, ◌+◌}
use lib.Dec.{eqb}
use borrow.Author.Tests.{eq-eqb}
use Rattle.rules.specs.Number.{pick}
use Rattle.rules.specs.Step.{Board}
use Rattle.rules.specs.World.{World, Answer, board_of}
use Rattle.rules.specs.Call.{step_own, step_board, stepped, step, ticked}
use Rattle.rules.specs.Run.{Ran, ticked_by, unrefused, run_from, run_refusal, run, lists_fit}
use Rattle.rules.proofs.Choices.{by_test, by_tests}
use Rattle.rules.proofs.Given.{tested_ready}
use Rattle.rules.proofs.Ready.{Ready, step_own_law, step_ready, ticks_ready}
use Rattle.plain.specs.Gone.{Gone, ticked_on, gone_from}
use Rattle.plain.specs.Equal.{Beside, AnyHistory}

ticks_beside : (n : ℕ) (w : World) → board_of (ticked_by n w) ≡ ticked_on n (board_of w)
unfolding ticked
ticks_beside zero w = refl
ticks_beside (suc n) w = ticks_beside n (ticked w)

-- an accepted step leads to the board's next one, and a refused one leaves the board
record OnBoard (k r : ℕ) (b : Board) (a : Answer) : Type 0 where
  refusal : a.refusal ≡ step_own b
  led : step_own b ≡ 0 → board_of a.world ≡ step_board k r b
  left : (step_own b ≡ 0 → ⊥) → board_of a.world ≡ b

step_beside : (k r : ℕ) (w : World) → Ready w → OnBoard k r (board_of w) (step k r w)
unfolding step stepped
step_beside k r w h =
    rw (step_own_law w h)
    (by_test (OnBoard k r (board_of w)) (step_own (board_of w)) 0 (λ e. record { refusal = sym e; led = λ z. refl; left = λ ne. absurd (ne e) })
    (λ ne. record { refusal = refl; led = λ z. absurd (ne z); left = λ z. refl }))

-- an entry: its step is refused and ends both, or both go on
entry : (n k r : ℕ) (b : Board) (a : Answer) (x : Ran) (later : Board → Gone) → OnBoard k r b a → Beside x (later (board_of a.world))
    → Beside (pick (eqb a.refusal 0) x (record { accepted = n; answer = a }))
    (pick (eqb (step_own b) 0) (later (step_board k r b)) (record { accepted = n; refusal = step_own b; board = b }))
entry n k r b a x later o on =
    subst
    (λ (q : ℕ). Beside (pick (eqb q 0) x (record { accepted = n; answer = a }))
    (pick (eqb (step_own b) 0) (later (step_board k r b)) (record { accepted = n; refusal = step_own b; board = b }))) (sym o.refusal)
    (by_tests Beside (step_own b) 0 (λ e. subst (λ (c : Board). Beside x (later c)) (o.led e) on)
    (λ ne. record { accepted = refl; refusal = o.refusal; board = o.left ne }))

ended : {n : ℕ} {w : World} → Beside (record { accepted = n; answer = unrefused w }) (record { accepted = n; refusal = 0; board = board_of w })
ended = record { accepted = refl; refusal = refl; board = refl }

runs : (n : ℕ) (ts ks rs : List ℕ) (w : World) → Ready w → Beside (run_from n ts ks rs w) (gone_from n ts ks rs (board_of w))
unfolding run_from gone_from
runs n [] ks rs w h = ended
runs n (t ∷ ts) [] rs w h = ended
runs n (t ∷ ts) (k ∷ ks) [] w h = ended
runs n (t ∷ ts) (k ∷ ks) (r ∷ rs) w h =
    let v = ticked_by t w in
    let hv = ticks_ready t w h in
    let a = step k r v in
    let on = subst (λ (b : Board). OnBoard k r b a) (ticks_beside t w) (step_beside k r v hv) in
    entry n k r (ticked_on t (board_of w)) a (run_from (n + 1) ts ks rs a.world) (gone_from (n + 1) ts ks rs) on
    (runs (n + 1) ts ks rs a.world (step_ready v hv k r))

pub any_history : AnyHistory
unfolding run run_refusal
any_history ticks keys randoms w typed e =
    rw (eq-eqb (run_refusal ticks keys randoms w) 0 e) (runs 0 ticks keys randoms w (tested_ready w (lists_fit ticks keys randoms) typed e))
