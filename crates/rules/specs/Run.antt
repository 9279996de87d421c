-- The calls on lists: a run, entry by entry, and a play, move by move.
use Rattle.std.specs.Prelude.{Bool, true, ◌&&◌, List, [], ◌∷◌, ℕ, zero, suc, ◌+◌, length, eqb, leb}
use Rattle.rules.specs.declared.Refusal.TheVariants.{BufferLength, Unsound}
use Rattle.rules.specs.Number.{pick, unless}
use Rattle.rules.specs.Refusal.{number_of}
use Rattle.rules.specs.World.{World, Answer, buffers_fit, soundly}
use Rattle.rules.specs.Call.{step, tick, ticked, back, forward}

-- three lists of one length, 0 to 4,096
abbrev pub lists_fit : List ℕ → List ℕ → List ℕ → Bool
lists_fit first keys randoms = eqb (length first) (length keys) && eqb (length keys) (length randoms) && leb (length first) 4096

-- the world as it is, with nothing refused so far
abbrev pub unrefused : World → Answer
unrefused w = record { refusal = 0; world = w }

-- ---- a run

-- the number of accepted steps, and the refusal that ended the run, or 0
pub record Ran : Type 0 where
  pub accepted : ℕ
  pub answer : Answer

abbrev pub ticked_by : ℕ → World → World
ticked_by zero w = w
ticked_by (suc n) w = ticked_by n (ticked w)

-- for each entry the ticks, then a step; the first refused step ends it, and the ticks before it stand
unfoldable pub run_from : ℕ → List ℕ → List ℕ → List ℕ → World → Ran
run_from n (t ∷ ts) (k ∷ ks) (r ∷ rs) w =
    let a = step k r (ticked_by t w) in
    pick (eqb a.refusal 0) (run_from (n + 1) ts ks rs a.world) (record { accepted = n; answer = a })
run_from n [] ks rs w = record { accepted = n; answer = unrefused w }
run_from n (t ∷ ts) [] rs w = record { accepted = n; answer = unrefused w }
run_from n (t ∷ ts) (k ∷ ks) [] w = record { accepted = n; answer = unrefused w }

-- 9 and 10 first, for all its entries
unfoldable pub run_refusal : List ℕ → List ℕ → List ℕ → World → ℕ
run_refusal ticks keys randoms w =
    unless (buffers_fit w && lists_fit ticks keys randoms) (number_of BufferLength)
    (unless (soundly w) (number_of Unsound)
    0)

unfoldable pub run : List ℕ → List ℕ → List ℕ → World → Ran
run ticks keys randoms w =
    let refusal = run_refusal ticks keys randoms w in
    pick (eqb refusal 0) (run_from 0 ticks keys randoms w) (record { accepted = 0; answer = record { refusal = refusal; world = w } })

-- ---- a number that a run answers: each accepted step adds what is said of it, at the world in which it is made; ticks add nothing

unfoldable pub total_from : (World → ℕ) → List ℕ → List ℕ → List ℕ → World → ℕ
total_from each (t ∷ ts) (k ∷ ks) (r ∷ rs) w =
    let a = step k r (ticked_by t w) in
    pick (eqb a.refusal 0) (each (ticked_by t w) + total_from each ts ks rs a.world) 0
total_from each [] ks rs w = 0
total_from each (t ∷ ts) [] rs w = 0
total_from each (t ∷ ts) (k ∷ ks) [] w = 0

-- 0 where the run itself is refused
unfoldable pub total : (World → ℕ) → List ℕ → List ℕ → List ℕ → World → ℕ
total each ticks keys randoms w = pick (eqb (run_refusal ticks keys randoms w) 0) (total_from each ticks keys randoms w) 0

-- ---- a play

pub data Move : Type 0 where
  a_step : ℕ → ℕ → Move
  a_tick : Move
  a_back : Move
  a_forward : Move

abbrev pub made : Move → World → Answer
made (a_step keys random) w = step keys random w
made a_tick w = tick w
made a_back w = back w
made a_forward w = forward w

-- each move is made on the world that the last one gave, refused or not
unfoldable pub play_from : List Move → Answer → Answer
play_from [] a = a
play_from (m ∷ ms) a = play_from ms (made m a.world)

-- a byte for each move: 0 a step, 1 a tick, 2 a step back, 3 a step forward
abbrev pub move_of : ℕ → ℕ → ℕ → Move
move_of b keys random =
    pick (eqb b 0) (a_step keys random)
    (pick (eqb b 1) a_tick
    (pick (eqb b 2) a_back
    a_forward))

unfoldable pub moves_of : List ℕ → List ℕ → List ℕ → List Move
moves_of (b ∷ bs) (k ∷ ks) (r ∷ rs) = move_of b k r ∷ moves_of bs ks rs
moves_of [] ks rs = []
moves_of (b ∷ bs) [] rs = []
moves_of (b ∷ bs) (k ∷ ks) [] = []

unfoldable pub all_moves : List ℕ → Bool
all_moves [] = true
all_moves (b ∷ bs) = leb b 3 && all_moves bs

abbrev pub moves_fit : List ℕ → List ℕ → List ℕ → Bool
moves_fit moves keys randoms = lists_fit moves keys randoms && all_moves moves

-- 9 and 10 first, for all its moves; a byte that is no move makes a list of moves a wrong one
unfoldable pub play_refusal : List ℕ → List ℕ → List ℕ → World → ℕ
play_refusal moves keys randoms w =
    unless (buffers_fit w && moves_fit moves keys randoms) (number_of BufferLength)
    (unless (soundly w) (number_of Unsound)
    0)

unfoldable pub play : List ℕ → List ℕ → List ℕ → World → Answer
play moves keys randoms w =
    let refusal = play_refusal moves keys randoms w in
    pick (eqb refusal 0) (play_from (moves_of moves keys randoms) (unrefused w)) (record { refusal = refusal; world = w })

-- ---- what is claimed of each call that takes a state

pub record EachCall (P : (World → Answer) → Type 0) : Type 0 where
  pub step : (keys random : ℕ) → P (step keys random)
  pub tick : P tick
  pub back : P back
  pub forward : P forward
  pub run : (ticks keys randoms : List ℕ) → P (λ w. (run ticks keys randoms w).answer)
  pub play : (moves keys randoms : List ℕ) → P (play moves keys randoms)
