-- A step told without a history: the board of the rules beside the picture's spots, what an instruction answers, and what it leaves.
use Rattle.std.specs.Prelude.{◌≡◌, List, ℕ, eqb, Result, Ok, Err}
use Rattle.rules.specs.declared.Machine.{Machine}
use Rattle.rules.specs.declared.Op.{Op}
use Rattle.rules.specs.declared.Refusal.{Refusal}
use Rattle.rules.specs.Number.{pick, or_later}
use Rattle.rules.specs.Refusal.{number}
use Rattle.rules.specs.Step.{Board, refusal_of, lit_refusal, counted, after, picture_after}
use Rattle.rules.specs.Call.{step_own, step_board}
use Rattle.rules.proofs.Good.{GoodBoard}
use Rattle.spots.specs.Spots.{picture_of, AreSpots}

-- the board that a machine, its memory and its spots are
abbrev pub board_on : Machine → List ℕ → List ℕ → Board
board_on m memory spots = record { machine = m; memory = memory; picture = picture_of spots }

-- in range and sound, with spots for its picture
pub record Playable (m : Machine) (memory spots : List ℕ) : Type 0 where
  pub good : GoodBoard (board_on m memory spots)
  pub are : AreSpots spots

-- an outcome, and a board handed back as a machine, memory and spots
pub record Leaves {A : Type 0} (refusal : ℕ) (b : Board) (o : Result A Refusal) (m : Machine) (mem spots : List ℕ) : Type 0 where
  pub says : number o ≡ refusal
  pub machine : m ≡ b.machine
  pub memory : mem ≡ b.memory
  pub picture : picture_of spots ≡ b.picture
  pub are : AreSpots spots

-- a refused step hands nothing back, and leaves the machine as it came
abbrev pub machine_after : Machine → Result Machine Refusal → Machine
machine_after m (Ok after) = after
machine_after m (Err _) = m

-- ---- an instruction: 2 to 6, then the late 10; and the board after it, or as it was

unfoldable pub own_of : Op → Board → ℕ
own_of op b = or_later (refusal_of op b.machine) (lit_refusal b.machine.lit b.picture (picture_after op b.machine b.memory b.picture))

unfoldable pub done_by : Op → ℕ → ℕ → Board → Board
done_by op keys random b = pick (eqb (own_of op b) 0) (counted b (after op keys random b.machine b.memory b.picture)) b

-- ---- a step

unfoldable pub stepped_to : ℕ → ℕ → Board → Board
stepped_to keys random b = pick (eqb (step_own b) 0) (step_board keys random b) b
