-- The invariant: the bytes of i rows are laid.
use mathlib.Core.Path.{◌≡◌}
use Prim.Native.Nat.{◌+◌, ◌*◌}
use native.Mathlib.Omega.{arith}
use lib.ListN.{get_or}
use Rattle.rules.specs.Rows.{eight_of}
use Rattle.rules.proofs.Laid.{none, more_part, laid}
use Rattle.rules.proofs.Turning.{part_sized, row_part}
use Rattle.picture.proofs.lay_rows.Goals as goal

pub loop-i-init : goal.loop-i-init
loop-i-init c = let a = c.args in none _ _ _ _ (part_sized a.rows.now a.from a.count (omega arith)) (omega arith)

pub loop-i-preserved : goal.loop-i-preserved
loop-i-preserved c =
    let l = c.loop-i in
    let a = c.args in
    let next : 8 * l.i + 8 ≡ 8 * (l.i + 1) = omega arith in
    rw c.lay_eight.ensures (rw next at (more_part _ _ _ _ l.place (eight_of (get_or a.rows.now (a.from + l.i) 0)) (8 * l.i) 8 l.invariant (omega arith)
    (row_part a.rows.now a.from a.count l.i (omega arith) (omega arith))))

pub shape_of-place : goal.shape_of-place
shape_of-place c = c.loop-i.invariant.same

pub returns : goal.returns
returns c = laid _ _ _ _ _ _ c.loop-i.invariant (omega arith)
