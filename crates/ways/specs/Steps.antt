-- Where a step has come to when its instruction is known, and what it promises at the end.
use Rattle.std.specs.Prelude.{◌≡◌, List, ℕ, ◌-◌, ◌≤◌, Result, Ok, Err}
use Rattle.rules.specs.declared.Machine.{Machine}
use Rattle.rules.specs.declared.Op.{Op}
use Rattle.rules.specs.declared.Refusal.{Refusal}
use Rattle.rules.specs.declared.Trail.{Trail}
use Rattle.rules.specs.World.{World, board_of}
use Rattle.rules.specs.Call.{step, op_at}
use Rattle.rules.specs.Dark.{step_dark}
use Rattle.rules.specs.Copied.{step_copied}
use Rattle.rules.specs.Promise.{Gives}
use Rattle.rules.proofs.Ready.{Ready}
use Rattle.parts.specs.declared.Core.{Core}
use Rattle.parts.specs.Whole.{whole, core_of}
use Rattle.ways.specs.declared.Counts.{Counts}
use Rattle.ways.specs.declared.Stepped.{Stepped}

-- the world passed the tests 9 and 10, both bytes at PC are below the end, and they are this instruction
pub record Reached (op : Op) (w : World) : Type 0 where
  pub ready : Ready w
  pub near : w.machine.pc ≤ w.machine.end - 2
  pub there : op ≡ op_at (board_of w)

-- what came of it, the state and every lent byte are those of the rules, and so are the spots that it darkened and the bytes that its record keeps
pub record Made {A : Type 0} (keys random : ℕ) (w : World) (o : Result A Refusal) (m : Machine) (t : Trail) (n : Counts) (memory picture history : List ℕ) : Type 0 where
  pub gives : Gives (step keys random w) o m t memory picture history
  pub dark : n.dark ≡ step_dark w
  pub dark_few : n.dark ≤ 120
  pub copied : n.copied ≡ step_copied w
  pub copied_few : n.copied ≤ 256

-- a refused step counts nothing
abbrev pub counted : Result Counts Refusal → Counts
counted (Ok n) = n
counted (Err _) = record { dark = 0; copied = 0 }

-- and a step that hands nothing else back leaves the core and the history's numbers as they came
abbrev pub counts_of : Result Stepped Refusal → Counts
counts_of (Ok s) = s.counts
counts_of (Err _) = record { dark = 0; copied = 0 }

abbrev pub core_after : World → Result Stepped Refusal → Core
core_after w (Ok s) = s.core
core_after w (Err _) = core_of w.machine

abbrev pub trail_after : World → Result Stepped Refusal → Trail
trail_after w (Ok s) = s.trail
trail_after w (Err _) = w.trail

abbrev pub Steps : ℕ → ℕ → World → Result Stepped Refusal → List ℕ → List ℕ → List ℕ → List ℕ → List ℕ → Type 0
Steps keys random w r v stack memory picture history =
    Made keys random w r (whole (core_after w r) v stack) (trail_after w r) (counts_of r) memory picture history
