-- The invariant: the spots before s are turned, and the others stand as they were.
use mathlib.Core.Path.{◌≡◌, sym, ◌∙◌}
use Prim.Native.Nat.{◌+◌, ◌*◌, ◌%◌, ◌/◌}
use native.Mathlib.Omega.{arith}
use Rattle.spots.proofs.Forms.{picture_drawn}
use Rattle.spots.proofs.Walked.{walk_none, walk_turned}
use Rattle.spots.proofs.draw.Goals as goal

pub loop-s-init : goal.loop-s-init
loop-s-init c = (c.requires.0.size, walk_none _ _ c.requires.0)

pub turned-requires : goal.turned-requires
turned-requires c = let p = c.requires in (c.loop-s.invariant.1.are, p.1, p.2, omega arith)

pub bounds-spots-s : goal.bounds-spots-s
bounds-spots-s c = omega (arith, c.loop-s.invariant.1.are.size)

pub loop-s-preserved : goal.loop-s-preserved
loop-s-preserved c =
    let l = c.loop-s in
    let a = c.args in
    (l.invariant.0, walk_turned a.pattern.now a.column a.row _ _ l.s _ l.invariant.1 (omega arith) c.turned.ensures.0 c.turned.ensures.1)

pub shape_of-spots : goal.shape_of-spots
shape_of-spots c = c.loop-s.invariant.1.are.size ∙ sym c.loop-s.invariant.0

pub returns : goal.returns
returns c =
    let w = c.loop-s.invariant.1 in (
      picture_drawn _ c.requires.0 _ _ _ _ (λ x y hx hy.
          let column : (64 * y + x) % 64 ≡ x = omega arith in
          let row : (64 * y + x) / 64 ≡ y = omega arith in
          rw (column, row) at (w.done (64 * y + x) (omega arith))),
      w.are,
    )
