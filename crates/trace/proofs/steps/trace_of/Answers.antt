-- The header stands, and behind it the line of a refused load, or the steps.
use mathlib.Core.Path.{◌≡◌, sym, ap, ◌∙◌}
use Rattle.rules.specs.Refusal.{number}
use Rattle.rules.proofs.Given.{some_number, done_number}
use Rattle.rules.proofs.Turning.{bytes_dark}
use Rattle.line.specs.Line.{header}
use Rattle.trace.proofs.Printed.{handed, load_refused, load_done}
use Rattle.trace.proofs.steps.trace_of.Goals as goal

pub returns-in-Ok : goal.returns-in-Ok
returns-in-Ok c =
    let given = rw bytes_dark at c.load-start.ensures in
    let begun : c.push_header.new.out.bytes ≡ header = c.push_header.ensures ∙ rw c.new-out.ensures in
    load_done _ _ _ begun (sym given.says ∙ done_number c.in-Ok.is) (handed given) c.put_steps.ensures

pub returns-in-Err : goal.returns-in-Err
returns-in-Err c =
    let given = rw bytes_dark at c.load-start.ensures in
    let begun : c.push_header.new.out.bytes ≡ header = c.push_header.ensures ∙ rw c.new-out.ensures in
    load_refused _ _ _ begun (sym given.says ∙ ap number c.in-Err.is ∙ sym c.from.ensures) (λ e. some_number _ (sym c.from.ensures ∙ e)) (handed given) c.push_stop.ensures
