-- Too far, or one of the four ways: the one that the instruction takes.
use mathlib.Core.Path.{◌≡◌, refl, ◌∙◌, sym}
use Prim.Native.Nat.{◌-◌, ◌≤◌}
use native.Mathlib.Omega.{arith}
use Rattle.rules.specs.World.{World, board_of}
use Rattle.rules.specs.Call.{op_at}
use Rattle.rules.specs.Rows.{bytes_of}
use Rattle.rules.proofs.Ready.{Ready}
use Rattle.decode.proofs.Cases.{draws}
use Rattle.ways.specs.Steps.{Reached}
use Rattle.ways.proofs.OneStep.{far, far_dark, far_copied, back, reached_as}
use Rattle.moves.proofs.step.Goals as goal

reached : {w : World} → Ready w → w.machine.pc ≤ w.machine.end - 2 → Reached (op_at (board_of w)) w
reached h near = record { ready = h; near = near; there = refl }

-- memory goes beyond the program's address
pub overflow_sub-c : goal.overflow_sub-c
overflow_sub-c c = omega (arith, c.requires.good.machine.end.least)

pub returns-then-c-at : goal.returns-then-c-at
returns-then-c-at c =
    let past = c.if-c-at.true in
    let h = c.requires in
    let a = c.args in
    back a.keys a.random a.c a.v.now a.stack.now a.trail a.memory.now (bytes_of a.rows.now) a.history.now _
    (far _ h past _ _) (far_dark _ h past) (far_copied _ h past)

pub plain_step-requires : goal.plain_step-requires
plain_step-requires c = (sym c.way_of.ensures ∙ c.in-Plain.is, reached c.requires c.if-c-at.false)

pub quiet_step-requires : goal.quiet_step-requires
quiet_step-requires c = (sym c.way_of.ensures ∙ c.in-Quiet.is, reached c.requires c.if-c-at.false)

pub drawing_step-requires : goal.drawing_step-requires
drawing_step-requires c = reached_as (draws _ _ _ (sym c.way_of.ensures ∙ c.in-Drawing.is)) (reached c.requires c.if-c-at.false)

pub other_step-requires : goal.other_step-requires
other_step-requires c =
    let other = sym c.way_of.ensures ∙ c.in-Other.is in
    let same = c.other_of.ensures _ other in
    (rw same at other, reached_as same (reached c.requires c.if-c-at.false))

pub returns-in-Plain : goal.returns-in-Plain
returns-in-Plain c = c.plain_step.ensures

pub returns-in-Quiet : goal.returns-in-Quiet
returns-in-Quiet c = c.quiet_step.ensures

pub returns-in-Drawing : goal.returns-in-Drawing
returns-in-Drawing c = c.drawing_step.ensures

pub returns-in-Other : goal.returns-in-Other
returns-in-Other c = c.other_step.ensures
