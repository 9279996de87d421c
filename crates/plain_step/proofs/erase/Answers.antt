-- Refused where the number would fall below 0; else what is lit goes dark.
use Rattle.std.proofs.Common.{refl, sym, ap, ◌∙◌}
use Rattle.std.proofs.lemmas.Result.{err_from_is_err_and}
use Rattle.rules.specs.declared.Op.TheVariants.{Clear}
use Rattle.rules.specs.declared.Wait.TheVariants.{Idle}
use Rattle.rules.specs.State.{with_wait}
use Rattle.rules.specs.Step.{refusal_of, after}
use Rattle.rules.proofs.Given.{done_number}
use Rattle.rules.proofs.Parts.{zeroes}
use Rattle.rules.proofs.Lit.{lit_none}
use Rattle.plain_step.proofs.Laws.{refused_late, own_late, done_by_law}
use Rattle.plain_step.proofs.erase.Goals as goal

pub returns-in_err-within_range : goal.returns-in_err-within_range
unfolding refusal_of after
returns-in_err-within_range c =
    λ keys random.
    let a = c.args in
    let p = err_from_is_err_and c.from_residual.result c.from_residual.ensures.1 in
    let late = c.within_range.ensures _ (zeroes 256) c.lit.ensures.0 (sym lit_none) in
    rw (p.1, p.2) (refused_late a.m a.memory.now a.spots.now c.requires.0 Clear keys random _ refl (rw c.in_err-within_range.was at late))

pub erase-requires : goal.erase-requires
erase-requires c =
    let late = c.within_range.ensures _ (zeroes 256) c.lit.ensures.0 (sym lit_none) in
    (c.requires.1, c.requires.0.are, sym late ∙ done_number c.in_ok-within_range.was)

pub returns : goal.returns
unfolding refusal_of after
returns c =
    λ keys random.
    let a = c.args in
    let erased = c.erase.ensures in
    let late = c.within_range.ensures _ (zeroes 256) c.lit.ensures.0 (sym lit_none) in
    let passes = own_late a.m a.memory.now a.spots.now c.requires.0 Clear keys random refl ∙ sym late ∙ done_number c.in_ok-within_range.was in
    rw c.done.ensures
    (done_by_law a.m a.memory.now a.spots.now c.requires.0 Clear keys random passes (ap (with_wait Idle) erased.0) refl erased.1 erased.2)
