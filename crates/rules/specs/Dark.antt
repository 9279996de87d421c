-- Request Q-3: how many lit spots went dark, in a step and in a run.
use Rattle.std.specs.Prelude.{List, ℕ, eqb, Result, Ok, Err}
use Rattle.rules.specs.declared.Machine.{Machine}
use Rattle.rules.specs.declared.Op.{Op}
use Rattle.rules.specs.declared.Op.TheVariants.{Plain, AwaitKey, Call, Return, Clear, Draw, Decimal, Store, Fetch}
use Rattle.rules.specs.declared.Op.TheVariants.{Unlisted, MachineCode}
use Rattle.rules.specs.declared.Refusal.{Refusal}
use Rattle.rules.specs.Number.{pick}
use Rattle.rules.specs.Memory.{part}
use Rattle.rules.specs.Picture.{darkened}
use Rattle.rules.specs.Step.{column, row}
use Rattle.rules.specs.World.{World, board_of}
use Rattle.rules.specs.Call.{op_at, step_refusal}
use Rattle.rules.specs.Run.{total}

-- a drawing darkens spots, and no other instruction does, not even 00E0
unfoldable pub dark_of : Op → Machine → List ℕ → List ℕ → ℕ
dark_of (Draw x y n) m memory picture = darkened (part memory m.i n) (column m x) (row m y) picture
dark_of (Plain s) m memory picture = 0
dark_of (AwaitKey x) m memory picture = 0
dark_of (Call a) m memory picture = 0
dark_of Return m memory picture = 0
dark_of Clear m memory picture = 0
dark_of (Decimal x) m memory picture = 0
dark_of (Store x) m memory picture = 0
dark_of (Fetch x) m memory picture = 0
dark_of Unlisted m memory picture = 0
dark_of MachineCode m memory picture = 0

-- the number that a step answers, 0 where it is refused
unfoldable pub step_dark : World → ℕ
step_dark w = pick (eqb (step_refusal w) 0) (dark_of (op_at (board_of w)) w.machine w.memory w.picture) 0

-- what an accepted step hands back is that number, and a refused one hands none back: it darkens nothing
abbrev pub went_dark : Result ℕ Refusal → ℕ
went_dark (Ok n) = n
went_dark (Err _) = 0

-- the number that a run answers: the sum over its accepted steps, entry by entry
abbrev pub run_dark : List ℕ → List ℕ → List ℕ → World → ℕ
run_dark = total step_dark
