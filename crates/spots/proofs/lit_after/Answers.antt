-- The invariant: the count is the tally of what the callee finds at the spots passed.
use mathlib.Core.Path.{refl, ◌∙◌}
use native.Mathlib.Omega.{arith}
use Rattle.spots.proofs.Forms.{drawn_lit}
use Rattle.spots.proofs.Walked.{tally_none, tally_more, tally_few, tally_all}
use Rattle.spots.proofs.lit_after.Goals as goal

pub loop-s-init : goal.loop-s-init
loop-s-init c = tally_none

pub turned-requires : goal.turned-requires
turned-requires c = let p = c.requires in (p.0, p.1, p.2, omega arith)

pub overflow_add-count : goal.overflow_add-count
overflow_add-count c = omega (arith, c.loop-s.invariant.few, c.loop-s.invariant.inside, c.turned.ensures.1)

pub loop-s-preserved : goal.loop-s-preserved
loop-s-preserved c =
    let l = c.loop-s in
    tally_more l.s _ _ l.invariant (omega arith) (c.from-count.ensures ∙ c.turned.ensures.0) (omega (arith, c.turned.ensures.1))

pub returns : goal.returns
returns c =
    let l = c.loop-s in
    let p = c.requires in
    (tally_all 2048 refl l.s _ l.invariant (omega arith) ∙ drawn_lit _ p.0 _ _ _, tally_few l.s _ l.invariant)
