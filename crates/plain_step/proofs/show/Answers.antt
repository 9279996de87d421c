-- Refused where the pattern is not in memory, or where the number would leave its range; else the pattern is shown.
use Rattle.std.proofs.Common.{◌≡◌, refl, sym, ap, ◌∙◌}
use Rattle.std.proofs.lemmas.Result.{err_from_is_err_and}
use Rattle.rules.specs.declared.Op.TheVariants.{Draw}
use Rattle.rules.specs.declared.Wait.TheVariants.{Idle}
use Rattle.rules.specs.State.{with_wait}
use Rattle.rules.specs.Step.{past, refusal_of, after}
use Rattle.rules.proofs.Given.{done_number}
use Rattle.plain_step.proofs.Laws.{refused_early, refused_late, own_late, done_by_law}
use Rattle.plain_step.proofs.show.Goals as goal

pub returns-in_err-within_memory : goal.returns-in_err-within_memory
unfolding refusal_of
returns-in_err-within_memory c =
    λ keys random.
    let a = c.args in
    let p = err_from_is_err_and c.from_residual.result c.from_residual.ensures.1 in
    let says = rw (c.from.ensures, c.in_err-within_memory.was) at c.within_memory.ensures in
    rw (p.1, p.2) (refused_early a.m a.memory.now a.spots.now c.requires.0 (Draw a.x a.y a.n) keys random _ says)

pub returns-in_err-within_range : goal.returns-in_err-within_range
unfolding refusal_of after
returns-in_err-within_range c =
    λ keys random.
    let a = c.args in
    let p = err_from_is_err_and c.from_residual-in_err-within_range.result c.from_residual-in_err-within_range.ensures.1 in
    let first : past a.m a.n ≡ 0 = sym (rw c.from.ensures at c.within_memory.ensures) ∙ done_number c.in_ok-within_memory.was in
    let after = rw (c.from-column.ensures, c.from-row.ensures, c.v-2.ensures, c.v.ensures, c.pattern-pattern.ensures) at c.lit_after-after.ensures.0 in
    let late = c.within_range.ensures _ _ c.lit.ensures.0 after in
    rw (p.1, p.2)
    (refused_late a.m a.memory.now a.spots.now c.requires.0 (Draw a.x a.y a.n) keys random _ first (rw c.in_err-within_range.was at late))

pub show-requires : goal.show-requires
show-requires c =
    let after = rw (c.from-column.ensures, c.from-row.ensures, c.v-2.ensures, c.v.ensures, c.pattern-pattern.ensures) at c.lit_after-after.ensures.0 in
    let late = c.within_range.ensures _ _ c.lit.ensures.0 after in
    (c.requires.1, c.requires.0.are, rw c.pattern-pattern.ensures (sym late ∙ done_number c.in_ok-within_range.was))

pub returns : goal.returns
unfolding refusal_of after
returns c =
    λ keys random.
    let a = c.args in
    let first : past a.m a.n ≡ 0 = sym (rw c.from.ensures at c.within_memory.ensures) ∙ done_number c.in_ok-within_memory.was in
    let shown = rw c.pattern-pattern.ensures at c.show.ensures in
    let after = rw (c.from-column.ensures, c.from-row.ensures, c.v-2.ensures, c.v.ensures, c.pattern-pattern.ensures) at c.lit_after-after.ensures.0 in
    let late = c.within_range.ensures _ _ c.lit.ensures.0 after in
    let passes = own_late a.m a.memory.now a.spots.now c.requires.0 (Draw a.x a.y a.n) keys random first ∙ sym late ∙ done_number c.in_ok-within_range.was in
    rw c.done.ensures
    (done_by_law a.m a.memory.now a.spots.now c.requires.0 (Draw a.x a.y a.n) keys random passes (ap (with_wait Idle) shown.0) refl
    shown.1 shown.2)
