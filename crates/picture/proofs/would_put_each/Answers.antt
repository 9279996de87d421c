-- The invariant: both counts are those of the first i bytes, of the old ones and of the new ones.
use mathlib.Core.Path.{refl, ap, ◌∙◌}
use Prim.Native.Nat.{◌+◌}
use native.Mathlib.Nat.{zero-add}
use native.Mathlib.Omega.{arith}
use lib.Count.{ones, ones-le}
use Rattle.rules.specs.Lit.{lit_in}
use Rattle.rules.specs.Rows.{bytes_of}
use Rattle.rules.proofs.Turning.{bytes_length}
use Rattle.picture.proofs.Replaced.{lit_on, lit_one}
use Rattle.picture.proofs.would_put_each.Goals as goal

pub loop-i-init : goal.loop-i-init
unfolding lit_in
loop-i-init c = (refl, refl, omega arith, omega arith)

pub loop-i-preserved : goal.loop-i-preserved
loop-i-preserved c =
    let a = c.args in
    let l = c.loop-i in
    let P = bytes_of a.rows.now in
    let dark = c.ones_in-dark.ensures.0 ∙ ap ones (c.from.ensures ∙ c.byte_at.ensures) ∙ lit_one P (a.k + l.i) (omega (arith, bytes_length a.rows.now)) in
    let lit = c.ones_in-lit.ensures.0 ∙ ap ones c.from-in-loop-i.ensures ∙ lit_one a.bytes.now l.i (omega arith) in (
      lit_on P a.k l.i 1 l.dark c.ones_in-dark.result l.invariant.0 dark,
      lit_on a.bytes.now 0 l.i 1 l.lit c.ones_in-lit.result l.invariant.1 (rw zero-add lit),
      omega (arith, c.ones_in-dark.ensures.0, ones-le 8 c.from.result (omega arith)),
      omega (arith, c.ones_in-lit.ensures.0, ones-le 8 c.from-in-loop-i.result (omega arith)),
    )
