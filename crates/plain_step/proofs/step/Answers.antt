-- Past the end of memory, or what the line that is looked up does.
use native.Mathlib.Omega.{arith}
use Rattle.plain_step.proofs.Laws.{too_far, one_step}
use Rattle.plain_step.proofs.step.Goals as goal

pub returns-then-from-pc : goal.returns-then-from-pc
returns-then-from-pc c =
    too_far _ _ _ c.requires c.args.keys c.args.random (omega (arith, c.if-from-pc.true, c.from.ensures, c.from-pc.ensures))

pub carry_out-requires : goal.carry_out-requires
carry_out-requires c =
    (c.requires, omega (arith, c.if-from-pc.false, c.from.ensures, c.from-pc.ensures, c.requires.good.machine.end.most))

pub returns : goal.returns
returns c =
    one_step _ _ _ c.requires c.args.keys c.args.random _ _ _ _ _ (omega (arith, c.if-from-pc.false, c.from.ensures, c.from-pc.ensures))
    (rw c.from-pc.ensures at c.look_up-op.ensures) c.carry_out.ensures
