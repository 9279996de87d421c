-- Request Q-8: the number of lit spots is the picture's count after an accepted load, each call that takes a state keeps it so, and then no change
-- is refused for it.
use Rattle.std.specs.Prelude.{◌≡◌, not, List, [], ◌∷◌, ℕ, ◌+◌, ◌≤◌, eqb}
use Rattle.std.specs.Int.Count.{ones}
use Rattle.rules.specs.declared.Action.{Action}
use Rattle.rules.specs.declared.Action.TheVariants.{Step, Tick}
use Rattle.rules.specs.declared.Change.{Change}
use Rattle.rules.specs.declared.Change.TheVariants.{Nothing, InMemory, InPicture}
use Rattle.rules.specs.declared.Edition.{Edition}
use Rattle.rules.specs.declared.Refusal.TheVariants.{NothingKept, BufferLength, Unsound, Damaged, NothingAhead}
use Rattle.rules.specs.Number.{unless}
use Rattle.rules.specs.Refusal.{number_of}
use Rattle.rules.specs.State.{spot_count}
use Rattle.rules.specs.Picture.{spot, sum_from, lit_spots}
use Rattle.rules.specs.Memory.{part}
use Rattle.rules.specs.Record.{damaged, kind_sound, change_at, action_at}
use Rattle.rules.specs.Step.{Board, change_of, picture_after}
use Rattle.rules.specs.World.{World, board_of, buffers_fit, soundly}
use Rattle.rules.specs.Load.{load}
use Rattle.rules.specs.Call.{op_at, step_board, change_by, step_tests, step_own, step_refusal, stepped}
use Rattle.rules.specs.Call.{back_refusal, last_record, undone, forward_refusal, next_record, redone}
use Rattle.rules.specs.Run.{run_refusal, run, play_refusal, play, EachCall}
use Rattle.rules.specs.Typed.{Below, TypedBoard}

-- the number is the picture's count
abbrev pub TrueLit : World → Type 0
TrueLit w = w.machine.lit ≡ lit_spots w.picture

-- from one world to another it stays as far from the picture's count as it was
abbrev pub AsFar : World → World → Type 0
AsFar w v = v.machine.lit + lit_spots w.picture ≡ w.machine.lit + lit_spots v.picture

-- how many spots are lit in some bytes
unfoldable pub lit_in : List ℕ → ℕ
lit_in [] = 0
lit_in (x ∷ xs) = ones x + lit_in xs

-- and in those of the picture that a change names
abbrev pub lit_of : Change → List ℕ → ℕ
lit_of Nothing picture = 0
lit_of (InMemory s n) picture = 0
lit_of (InPicture s n) picture = lit_in (part picture s n)

-- the number grows by the lit spots in the bytes that the change names, counted after less before
abbrev pub Grows : Change → World → World → Type 0
Grows c w v = v.machine.lit + lit_of c w.picture ≡ w.machine.lit + lit_of c v.picture

-- an action's own numbers without that of the lit spots
abbrev pub own_tests : Action → Board → ℕ
own_tests (Step keys random) b = step_tests b
own_tests Tick b = 0

-- ---- THE CLAIMS, proved in proofs/Counted.antt, proofs/ByChange.antt, proofs/Still.antt, proofs/Lit.antt and proofs/Ends.antt

-- the sum over its spots is a picture's count
abbrev pub LitSum : Type 0
LitSum = (picture : List ℕ) → lit_spots picture ≡ sum_from (spot picture) spot_count 0

-- eight spots for each byte of a picture are the most
abbrev pub LitFew : Type 0
LitFew = (picture : List ℕ) → lit_spots picture ≤ spot_count

-- what an accepted step, step back or step forward adds is the lit spots in the bytes that it changes
pub record LitByChange (w : World) : Type 0 where
  pub step : (keys random : ℕ) → step_refusal w ≡ 0 → Grows (change_of (op_at (board_of w)) w.machine) w (stepped keys random w)
  pub back : Below 256 w.history → back_refusal w ≡ 0 → Grows (change_at (last_record w)) w (undone (last_record w) w)
  pub forward : forward_refusal w ≡ 0 → let a = action_at (next_record w) in Grows (change_by a (board_of w)) w (redone a w)

-- so it is in every typed world, whether its number is true or not
abbrev pub TypedLitByChange : Type 0
TypedLitByChange = (w : World) → TypedBoard (board_of w) → LitByChange w

-- a step that leaves the picture leaves the number
abbrev pub LitStill : Type 0
LitStill =
    (keys random : ℕ) (b : Board) → picture_after (op_at b) b.machine b.memory b.picture ≡ b.picture
    → (step_board keys random b).machine.lit ≡ b.machine.lit

-- true after an accepted load
abbrev pub LoadLit : Type 0
LoadLit =
    (edition : Edition) (end : ℕ) (program memory picture history : List ℕ)
    → let a = load edition end program memory picture history in a.refusal ≡ 0 → TrueLit a.world

-- kept true by each call that takes a state
abbrev pub LitKept : Type 0
LitKept = EachCall (λ call. (w : World) → TrueLit w → TrueLit (call w).world)

-- and a false one is as false after it as before
abbrev pub FarKept : Type 0
FarKept = EachCall (λ call. (w : World) → AsFar w (call w).world)

-- the refusals of a step, a step back and a step forward are those without the late 10
pub record NeverLate (w : World) : Type 0 where
  pub step : step_refusal w ≡
      unless (buffers_fit w) (number_of BufferLength)
      (unless (soundly w) (number_of Unsound)
      (step_tests (board_of w)))
  pub back : back_refusal w ≡
      unless (buffers_fit w) (number_of BufferLength)
      (unless (soundly w) (number_of Unsound)
      (unless (not (eqb w.trail.kept 0)) (number_of NothingKept)
      (unless (not (damaged w.machine.end (last_record w) w.machine.depth)) (number_of Damaged)
      0)))
  pub forward : forward_refusal w ≡
      unless (buffers_fit w) (number_of BufferLength)
      (unless (soundly w) (number_of Unsound)
      (unless (not (eqb w.trail.ahead 0)) (number_of NothingAhead)
      (unless (kind_sound (next_record w)) (number_of Damaged)
      (own_tests (action_at (next_record w)) (board_of w)))))

-- so it is with a true number
abbrev pub TrueNeverLate : Type 0
TrueNeverLate = (w : World) → TrueLit w → NeverLate w

-- what ends an admitted run is an own number of the step that it stops at, and that may be the late 10
abbrev pub RunEnds : Type 0
RunEnds =
    (ticks keys randoms : List ℕ) (w : World) → TypedBoard (board_of w) → run_refusal ticks keys randoms w ≡ 0
    → let a = (run ticks keys randoms w).answer in (a.refusal ≡ 0 → ⊥) → a.refusal ≡ step_own (board_of a.world)

-- with a true number it is not 10
abbrev pub RunTrue : Type 0
RunTrue =
    (ticks keys randoms : List ℕ) (w : World) → TypedBoard (board_of w) → TrueLit w → run_refusal ticks keys randoms w ≡ 0
    → (run ticks keys randoms w).answer.refusal ≡ number_of Unsound → ⊥

-- nor is it what an admitted play ends with, whatever bytes stand in the history
abbrev pub PlayTrue : Type 0
PlayTrue =
    (moves keys randoms : List ℕ) (w : World) → Below 256 w.history → TypedBoard (board_of w) → TrueLit w
    → play_refusal moves keys randoms w ≡ 0 → (play moves keys randoms w).refusal ≡ number_of Unsound → ⊥
