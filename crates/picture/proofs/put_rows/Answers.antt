-- The invariant: the bytes of y rows are laid over the rows' bytes.
use mathlib.Core.Path.{◌≡◌, refl}
use Prim.Native.Nat.{◌+◌, ◌*◌, ◌/◌, ◌%◌}
use native.Mathlib.Omega.{arith}
use Rattle.rules.specs.Rows.{bytes_of}
use Rattle.rules.proofs.Laid.{none, more_part}
use Rattle.rules.proofs.Turning.{bytes_length}
use Rattle.picture.proofs.PutRow.{row_put}
use Rattle.picture.proofs.put_rows.Goals as goal

pub loop-y-init : goal.loop-y-init
loop-y-init c = none _ _ _ _ refl (omega (arith, bytes_length c.args.rows.now))

pub loop-y-preserved : goal.loop-y-preserved
loop-y-preserved c =
    let a = c.args in
    let l = c.loop-y in
    let begins : a.k % 8 ≡ 0 = c.requires.1 (omega arith) in
    let at : a.k / 8 + l.y ≡ (a.k + 8 * l.y) / 8 = omega arith in
    let next : 8 * l.y + 8 ≡ 8 * (l.y + 1) = omega arith in
    rw (at, c.row_at.ensures, row_put l.rows a.bytes.now (a.k + 8 * l.y) (8 * l.y) (omega arith) (omega arith) (λ j. omega (arith, c.type_inv.bytes j)) (omega arith))
    (rw next at (more_part _ _ _ _ (bytes_of l.rows) _ (8 * l.y) 8 l.invariant (omega arith) refl))
