-- A run told without a history. The rules' own step and tick of a board, entry by entry: the board is the state, the memory and the picture.
use Rattle.std.specs.Prelude.{List, [], ◌∷◌, ℕ, zero, suc, ◌+◌, eqb}
use Rattle.rules.specs.Number.{pick}
use Rattle.rules.specs.Step.{Board}
use Rattle.rules.specs.Call.{step_own, step_board, tick_board}

-- the number of accepted steps, the refusal that ended the run, or 0, and the board that it leaves
pub record Gone : Type 0 where
  pub accepted : ℕ
  pub refusal : ℕ
  pub board : Board

abbrev pub ticked_on : ℕ → Board → Board
ticked_on zero b = b
ticked_on (suc n) b = ticked_on n (tick_board b)

-- for each entry the ticks, then a step; the first refused step ends it, and the ticks before it stand
unfoldable pub gone_from : ℕ → List ℕ → List ℕ → List ℕ → Board → Gone
gone_from n (t ∷ ts) (k ∷ ks) (r ∷ rs) b =
    let c = ticked_on t b in
    pick (eqb (step_own c) 0) (gone_from (n + 1) ts ks rs (step_board k r c)) (record { accepted = n; refusal = step_own c; board = c })
gone_from n [] ks rs b = record { accepted = n; refusal = 0; board = b }
gone_from n (t ∷ ts) [] rs b = record { accepted = n; refusal = 0; board = b }
gone_from n (t ∷ ts) (k ∷ ks) [] b = record { accepted = n; refusal = 0; board = b }
