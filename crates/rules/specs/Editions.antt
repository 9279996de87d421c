-- Request Q-5: the edition is what a load chose, no call that takes a state changes it, or the end (Q-14), and in the first edition the
-- instructions are as they were.
use Rattle.std.specs.Prelude.{◌≡◌, Bool, ◌&&◌, ◌||◌, List, ℕ, ◌/◌, ◌%◌, eqb}
use Rattle.rules.specs.declared.Edition.{Edition}
use Rattle.rules.specs.declared.Edition.TheVariants.{First, Second}
use Rattle.rules.specs.declared.Op.{Op}
use Rattle.rules.specs.declared.Op.TheVariants.{Plain, Unlisted}
use Rattle.rules.specs.declared.Simple.TheVariants.{Copy, Or, And, Plus, Minus}
use Rattle.rules.specs.Number.{pick}
use Rattle.rules.specs.State.{chosen}
use Rattle.rules.specs.Instruction.{op_by, decode}
use Rattle.rules.specs.World.{World, Answer}
use Rattle.rules.specs.Load.{load}
use Rattle.rules.specs.Run.{EachCall}

-- a call hands back what the load before it chose
abbrev pub KeepsChosen : (World → Answer) → Type 0
KeepsChosen call = (w : World) → chosen (call w).world.machine ≡ chosen w.machine

-- 8XYN as document 01 has it, with no edition in it
abbrev pub sum_before : ℕ → ℕ → ℕ → Op
sum_before x y n =
    pick (eqb n 0x0) (Plain (Copy x y))
    (pick (eqb n 0x1) (Plain (Or x y))
    (pick (eqb n 0x2) (Plain (And x y))
    (pick (eqb n 0x4) (Plain (Plus x y))
    (pick (eqb n 0x5) (Plain (Minus x y))
    Unlisted))))

-- one of the four that the second edition adds: 8XYN with such an N
abbrev pub is_added : ℕ → Bool
is_added n = eqb n 0x3 || eqb n 0x6 || eqb n 0x7 || eqb n 0xE

abbrev pub added : ℕ → ℕ → Bool
added hi lo = eqb (hi / 16) 0x8 && is_added (lo % 16)

-- ---- THE CLAIMS, proved in proofs/Editions.antt

-- whatever a load answers, it hands back the edition that it was given
abbrev pub LoadChooses : Type 0
LoadChooses =
    (edition : Edition) (end : ℕ) (program memory picture history : List ℕ)
    → (load edition end program memory picture history).world.machine.edition ≡ edition

-- a step, a tick, a step back, a step forward, a run and a play leave it, and the end too
abbrev pub ChosenKept : Type 0
ChosenKept = EachCall KeepsChosen

-- in the first edition two bytes are the instruction that they were
abbrev pub FirstAsBefore : Type 0
FirstAsBefore = (hi lo : ℕ) → decode First hi lo ≡ op_by sum_before hi lo

-- and the two differ only in the four, which the first does not list
abbrev pub SecondAdds : Type 0
SecondAdds = (hi lo : ℕ) → decode First hi lo ≡ pick (added hi lo) Unlisted (decode Second hi lo)
