-- Demand 3, the steps back and forward: whatever is played, the world is the board at the finger of a plain list of boards; a step back
-- is refused exactly where nothing is kept, and a step forward exactly where nothing is ahead.
use Rattle.std.specs.Prelude.{◌≡◌, true, List, [], ◌∷◌, ℕ, zero, suc, ◌+◌, ◌-◌, ◌≤◌, ◌<◌, min, length, get_or, drop, eqb}
use Rattle.rules.specs.declared.Edition.{Edition}
use Rattle.rules.specs.declared.Refusal.TheVariants.{NothingKept, NothingAhead}
use Rattle.rules.specs.Number.{pick}
use Rattle.rules.specs.Refusal.{number_of}
use Rattle.rules.specs.State.{sound}
use Rattle.rules.specs.Step.{Board}
use Rattle.rules.specs.World.{World, board_of, places, buffers_fit}
use Rattle.rules.specs.Load.{load}
use Rattle.rules.specs.Call.{step, step_board, tick_board, back, forward}
use Rattle.rules.specs.Run.{Move, a_step, a_tick, a_back, a_forward, made, moves_of, lists_fit, all_moves, play_from, unrefused}
use Rattle.rules.specs.Run.{ticked_by, run_refusal, run}
use Rattle.rules.specs.Typed.{Below, TypedBoard, TypedMoves}
use Rattle.rules.specs.Lit.{TrueLit}

-- ---- the plain list of boards with its finger, and the two numbers that go with it

-- the board at the finger, those below it, the one just below first, and those above it, the one just above first
pub record Past : Type 0 where
  pub finger : Board
  pub below : List Board
  pub above : List Board
  pub kept : ℕ
  pub ahead : ℕ

-- a new action strikes what stands above the finger and adds its board there, with the finger on it
abbrev pub added : ℕ → (Board → Board) → Past → Past
added r f p = record { finger = f p.finger; below = p.finger ∷ p.below; above = []; kept = min r (p.kept + 1); ahead = 0 }

-- the finger moves down to the first board below it, and nothing is struck
abbrev pub moved_down : Past → Past
moved_down p =
    record {
      finger = get_or p.below 0 p.finger;
      below = drop 1 p.below;
      above = p.finger ∷ p.above;
      kept = p.kept - 1;
      ahead = p.ahead + 1;
    }

-- the finger moves up to the first board above it, and nothing is struck
abbrev pub moved_up : ℕ → Past → Past
moved_up r p =
    record {
      finger = get_or p.above 0 p.finger;
      below = p.finger ∷ p.below;
      above = drop 1 p.above;
      kept = min r (p.kept + 1);
      ahead = p.ahead - 1;
    }

-- what an accepted move does to the list; a step or a tick adds the board that the rules define, and kept rises to at most r
abbrev pub noted : ℕ → Move → Past → Past
noted r (a_step keys random) p = added r (step_board keys random) p
noted r a_tick p = added r tick_board p
noted r a_back p = moved_down p
noted r a_forward p = moved_up r p

-- beside each move: a refused one notes nothing
abbrev pub follow : ℕ → List Move → World → Past → Past
follow r [] w p = p
follow r (m ∷ ms) w p = let a = made m w in follow r ms a.world (pick (eqb a.refusal 0) (noted r m p) p)

-- at first the one board with the finger on it, nothing kept and nothing ahead
abbrev pub first : World → Past
first w = record { finger = board_of w; below = []; above = []; kept = 0; ahead = 0 }

-- ---- where it starts, and what is told of the world after any moves

-- any sound state, buffers of the right sizes, and an empty history: kept 0 and ahead 0
pub record Start (w : World) : Type 0 where
  pub fits : buffers_fit w ≡ true
  pub sound : sound w.machine ≡ true
  pub next : w.trail.next < places w.history
  pub kept : w.trail.kept ≡ 0
  pub ahead : w.trail.ahead ≡ 0

-- the board is the one at the finger, and its number of lit spots is true if the start's was; kept and ahead are the list's, with as
-- many boards above the finger, and together at most R; back is refused, by 7, exactly where kept is 0, and forward, by 12, exactly
-- where ahead is 0
pub record Told (start w : World) (p : Past) : Type 0 where
  pub finger : board_of w ≡ p.finger
  pub lit : TrueLit start → TrueLit w
  pub kept : w.trail.kept ≡ p.kept
  pub ahead : w.trail.ahead ≡ p.ahead
  pub above : w.trail.ahead ≡ length p.above
  pub most : w.trail.kept + w.trail.ahead ≤ places start.history
  pub back : (back w).refusal ≡ pick (eqb w.trail.kept 0) (number_of NothingKept) 0
  pub forward : (forward w).refusal ≡ pick (eqb w.trail.ahead 0) (number_of NothingAhead) 0

-- what a play promises of the world w' that it leaves, where it starts from w with lists that fit
abbrev pub PlayTells : List ℕ → List ℕ → List ℕ → World → World → Type 0
PlayTells moves keys randoms w w' =
    Start w → lists_fit moves keys randoms ≡ true → all_moves moves ≡ true
    → Told w w' (follow (places w.history) (moves_of moves keys randoms) w (first w))

-- ---- the moves of a run: for each entry its ticks, then its step, up to and including the step that ends it

abbrev pub ticks_then : ℕ → List Move → List Move
ticks_then zero ms = ms
ticks_then (suc n) ms = a_tick ∷ ticks_then n ms

unfoldable pub moves_run : List ℕ → List ℕ → List ℕ → World → List Move
moves_run (t ∷ ts) (k ∷ ks) (r ∷ rs) w =
    let a = step k r (ticked_by t w) in
    ticks_then t (a_step k r ∷ pick (eqb a.refusal 0) (moves_run ts ks rs a.world) [])
moves_run [] ks rs w = []
moves_run (t ∷ ts) [] rs w = []
moves_run (t ∷ ts) (k ∷ ks) [] w = []

-- ---- THE CLAIMS, proved in proofs/StepsBack.antt, proofs/RunsPlay.antt and proofs/Load.antt

abbrev pub StepsBack : Type 0
StepsBack =
    (w : World) → TypedBoard (board_of w) → Start w → (moves : List Move) → TypedMoves moves
    → Told w (play_from moves (unrefused w)).world (follow (places w.history) moves w (first w))

-- a run gives what a play of its moves gives, so what is told of a play is told of a run
abbrev pub RunsPlay : Type 0
RunsPlay =
    (ticks keys randoms : List ℕ) (w : World) → TypedBoard (board_of w) → run_refusal ticks keys randoms w ≡ 0
    → (run ticks keys randoms w).answer ≡ play_from (moves_run ticks keys randoms w) (unrefused w)

-- and its moves are typed, as the keys and random bytes of its lists are
abbrev pub RunsTyped : Type 0
RunsTyped =
    (ticks keys randoms : List ℕ) (w : World) → Below 65536 keys → Below 256 randoms → TypedMoves (moves_run ticks keys randoms w)

-- an accepted load gives such a start, and its number of lit spots is true (`LoadLit` of Lit)
abbrev pub LoadStarts : Type 0
LoadStarts =
    (edition : Edition) (end : ℕ) (program memory picture history : List ℕ) → Below 256 program
    → let a = load edition end program memory picture history in a.refusal ≡ 0 → TypedBoard (board_of a.world) × Start a.world
