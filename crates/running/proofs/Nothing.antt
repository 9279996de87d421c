-- A step that copies nothing darkens nothing: of the instructions that copy nothing only DXY0 draws, and its pattern is empty.
use mathlib.Core.Path.{◌≡◌, refl}
use mathlib.Core.Bool.{Bool, true, false}
use mathlib.Core.List.{List}
use Prim.Native.Nat.{ℕ}
use native.Mathlib.Omega.{arith}
use lib.Dec.{eqb}
use Rattle.rules.specs.declared.Machine.{Machine}
use Rattle.rules.specs.declared.Op.{Op}
use Rattle.rules.specs.declared.Op.TheVariants.{Plain, AwaitKey, Call, Return, Clear, Draw, Decimal, Store, Fetch, Unlisted, MachineCode}
use Rattle.rules.specs.Number.{pick}
use Rattle.rules.specs.Memory.{part}
use Rattle.rules.specs.Step.{column, row}
use Rattle.rules.specs.World.{World, board_of}
use Rattle.rules.specs.Call.{op_at, step_refusal}
use Rattle.rules.specs.Dark.{dark_of, step_dark}
use Rattle.rules.specs.Copied.{copied_of, step_copied}
use Rattle.rules.proofs.Balance.{few_darkened}

by_instruction : (op : Op) (m : Machine) (memory picture : List ℕ) → copied_of op m ≡ 0 → dark_of op m memory picture ≡ 0
unfolding copied_of dark_of
by_instruction (Plain s) m memory picture e = refl
by_instruction (AwaitKey x) m memory picture e = refl
by_instruction (Call a) m memory picture e = refl
by_instruction Return m memory picture e = refl
by_instruction Clear m memory picture e = refl
by_instruction (Draw x y n) m memory picture e =
    let none : n ≡ 0 = omega arith in
    rw none (omega (arith, few_darkened (part memory m.i 0) (column m x) (row m y) picture))
by_instruction (Decimal x) m memory picture e = refl
by_instruction (Store x) m memory picture e = refl
by_instruction (Fetch x) m memory picture e = refl
by_instruction Unlisted m memory picture e = refl
by_instruction MachineCode m memory picture e = refl

either : (accepted : Bool) (copied dark : ℕ) → (copied ≡ 0 → dark ≡ 0) → pick accepted copied 0 ≡ 0 → pick accepted dark 0 ≡ 0
either true copied dark h e = h e
either false copied dark h e = refl

pub nothing_added : (w : World) → step_copied w ≡ 0 → step_dark w ≡ 0
unfolding step_dark step_copied
nothing_added w =
    let op = op_at (board_of w) in
    either (eqb (step_refusal w) 0) (copied_of op w.machine) (dark_of op w.machine w.memory w.picture)
    (by_instruction op w.machine w.memory w.picture)
