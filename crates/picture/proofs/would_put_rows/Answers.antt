-- The invariant: both counts are those of the bytes of y rows, of the old ones and of the new ones.
use mathlib.Core.Path.{◌≡◌, refl, ap, ◌∙◌}
use Prim.Native.Nat.{◌+◌, ◌*◌, ◌/◌, ◌%◌}
use native.Mathlib.Nat.{zero-add}
use native.Mathlib.Omega.{arith}
use lib.Count.{ones}
use Rattle.rules.specs.Lit.{lit_in}
use Rattle.rules.specs.Rows.{bytes_of}
use Rattle.picture.proofs.Replaced.{lit_on, lit_row, ones_joined}
use Rattle.picture.proofs.would_put_rows.Goals as goal

pub loop-y-init : goal.loop-y-init
unfolding lit_in
loop-y-init c = (refl, refl, omega arith, omega arith)

pub loop-y-preserved : goal.loop-y-preserved
loop-y-preserved c =
    let a = c.args in
    let l = c.loop-y in
    let P = bytes_of a.rows.now in
    let begins : a.k % 8 ≡ 0 = c.requires.1 (omega arith) in
    let at : a.k / 8 + l.y ≡ (a.k + 8 * l.y) / 8 = omega arith in
    let next : 8 * l.y + 8 ≡ 8 * (l.y + 1) = omega arith in
    let dark = rw at at c.ones_in-dark.ensures.0 ∙ lit_row a.rows.now c.fits-rows (a.k + 8 * l.y) (omega arith) (omega arith) in
    let lit = c.ones_in-lit.ensures.0 ∙ ap ones c.row_at.ensures ∙ ones_joined a.bytes.now (λ j. omega (arith, c.type_inv.bytes j)) (8 * l.y) 8 (omega arith) in (
      rw next at (lit_on P a.k (8 * l.y) 8 l.dark c.ones_in-dark.result l.invariant.0 dark),
      rw next at (lit_on a.bytes.now 0 (8 * l.y) 8 l.lit c.ones_in-lit.result l.invariant.1 (rw zero-add lit)),
      omega arith,
      omega arith,
    )
