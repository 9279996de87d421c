-- The invariant: the ticks that are left, from here, lead to the same board, beside any memory and spots.
use mathlib.Core.Path.{◌≡◌, refl, sym, ◌∙◌}
use Prim.Native.Nat.{◌+◌, ◌-◌}
use native.Mathlib.Omega.{arith}
use Rattle.plain_step.specs.Does.{board_on}
use Rattle.plain.proofs.Entries.{one_less}
use Rattle.plain.proofs.ticks_of.Goals as goal

pub loop-made-init : goal.loop-made-init
loop-made-init c =
    λ memory spots.
    let all : c.args.count - 0 ≡ c.args.count = omega arith in
    rw all refl

pub loop-made-preserved : goal.loop-made-preserved
loop-made-preserved c =
    λ memory spots.
    let l = c.loop-made in
    let left : c.args.count - (l._made + 1) ≡ c.args.count - l._made - 1 = omega arith in
    rw (c.tick-m.ensures, left) (sym (one_less (c.args.count - l._made) (board_on l.m memory spots) (omega (arith, c.loop-made-test.true))) ∙ l.invariant memory spots)

pub returns : goal.returns
returns c =
    λ memory spots.
    let none : c.args.count - c.loop-made._made ≡ 0 = omega arith in
    rw none at (c.loop-made.invariant memory spots)
