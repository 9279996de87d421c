-- The invariant: the count is the tally of what the callee finds at the spots passed.
use mathlib.Core.Path.{refl, ◌∙◌}
use native.Mathlib.Omega.{arith}
use Rattle.spots.proofs.Forms.{picture_darkened}
use Rattle.spots.proofs.Walked.{tally_none, tally_more, tally_all}
use Rattle.spots.proofs.darkened.Goals as goal

pub loop-s-init : goal.loop-s-init
loop-s-init c = tally_none

pub met-requires : goal.met-requires
met-requires c = let p = c.requires in (p.0, p.1, p.2, omega arith)

pub overflow_add-count : goal.overflow_add-count
overflow_add-count c = omega (arith, c.loop-s.invariant.few, c.loop-s.invariant.inside, c.met.ensures.1)

pub loop-s-preserved : goal.loop-s-preserved
loop-s-preserved c =
    let l = c.loop-s in
    tally_more l.s _ _ l.invariant (omega arith) (c.from-count.ensures ∙ c.met.ensures.0) (omega (arith, c.met.ensures.1))

pub returns : goal.returns
returns c =
    let l = c.loop-s in
    let p = c.requires in
    tally_all 2048 refl l.s _ l.invariant (omega arith) ∙ picture_darkened _ p.0 _ _ _
