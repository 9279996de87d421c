-- 6 settles it; else the pattern is in memory, and the late 10 is that of the drawing.
use mathlib.Core.Path.{sym, ap, ◌∙◌}
use mathlib.Core.List.{[]}
use native.Mathlib.Omega.{arith}
use lib.ListN.{length-take}
use Rattle.rules.specs.Refusal.{number}
use Rattle.rules.specs.Step.{past}
use Rattle.rules.proofs.Given.{done_number, some_number}
use Rattle.parts.specs.Whole.{whole}
use Rattle.verdict.proofs.Laws.{refused, settled, within}
use Rattle.verdict.proofs.drawable.Goals as goal

pub returns-in_default : goal.returns-in_default
returns-in_default c v stack =
    let says = c.past-outcome.ensures v stack in
    let six = refused (whole c.args.c v stack) c.args.n
    (λ z. some_number c.in_default.field-0 (sym (ap number c.in_default.is) ∙ says ∙ z)) in
    settled _ (past (whole c.args.c v stack) c.args.n) _ (omega (arith, says, six)) (λ z. omega (arith, says, six, z))

pub pattern-requires : goal.pattern-requires
pattern-requires c =
    let below = within (whole c.args.c [] []) c.args.n (sym (c.past-outcome.ensures [] []) ∙ done_number c.in-Ok.is) in
    omega (arith, below, c.requires.1)

pub late_drawing-requires : goal.late_drawing-requires
late_drawing-requires c =
    (c.requires.0, c.requires.2, c.requires.3, rw c.pattern.ensures (simp length-take (omega (arith, c.requires.4))))

pub returns : goal.returns
returns c v stack =
    rw (sym (c.past-outcome.ensures v stack) ∙ done_number c.in-Ok.is) (rw c.pattern.ensures at c.late_drawing.ensures)
