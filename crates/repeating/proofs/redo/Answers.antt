-- Each way out is a law of the step forward: nothing ahead, damaged, or its action with one less ahead.
use mathlib.Core.Path.{sym, ◌∙◌}
use native.Mathlib.Omega.{arith}
use Rattle.std.proofs.lemmas.Result.{err_from_is_err_and}
use Rattle.repeating.proofs.Redone.{nothing_ahead, kind_unknown, redo_gives, redo_refused}
use Rattle.repeating.proofs.redo.Goals as goal

pub returns-then-trail-eq0 : goal.returns-then-trail-eq0
returns-then-trail-eq0 c = nothing_ahead _ c.requires c.if-trail-eq0.true

pub place-place-requires : goal.place-place-requires
place-place-requires c = omega (arith, c.requires.next)

pub returns-then-not-kind_sound : goal.returns-then-not-kind_sound
returns-then-not-kind_sound c =
    let kind = rw c.place-place.ensures at c.kind_sound.ensures in
    kind_unknown _ c.requires c.if-trail-eq0.false (sym kind ∙ c.if-not-kind_sound.true)

pub returns-in_err-take : goal.returns-in_err-take
returns-in_err-take c =
    let kind = rw c.place-place.ensures at c.kind_sound.ensures in
    let action = rw c.place-place.ensures at c.action_at-action.ensures in
    let p = err_from_is_err_and c.from_residual.result c.from_residual.ensures.1 in
    rw (p.1, p.2)
    (redo_refused _ c.requires c.if-trail-eq0.false (sym kind ∙ c.if-not-kind_sound.false) _ _ _ _ _ _ (rw (action, c.in_err-take.was) at c.take.ensures))

pub returns : goal.returns
returns c =
    let kind = rw c.place-place.ensures at c.kind_sound.ensures in
    let action = rw c.place-place.ensures at c.action_at-action.ensures in
    redo_gives _ c.requires c.if-trail-eq0.false (sym kind ∙ c.if-not-kind_sound.false) _ _ _ _ _ _ (rw (action, c.in_ok-take.was) at c.take.ensures)
