-- Each answer by the wait that was matched, the test that led there, and what the callees ensure.
use mathlib.Core.Path.{◌≡◌, ap, ◌∙◌}
use mathlib.Core.Bool.{true, false}
use borrow.Author.Tests.{eq-eqb, ne_eqb}
use Rattle.rules.specs.declared.Wait.TheVariants.{Idle}
use Rattle.rules.specs.State.{with_wait}
use Rattle.registers.proofs.awaited.Goals as goal

pub returns-then-keys-eq0 : goal.returns-then-keys-eq0
returns-then-keys-eq0 c stack = rw (c.in-Idle.is, eq-eqb _ _ c.if-keys-eq0.true)

pub returns-then-down : goal.returns-then-down
returns-then-down c stack =
    let still : c.down.result ≡ true = c.if-down.true in
    rw (c.in-Held.is, ← c.down.ensures, still)

pub returns-else-keys-eq0 : goal.returns-else-keys-eq0
returns-else-keys-eq0 c stack = rw (c.in-Idle.is, ne_eqb _ _ c.if-keys-eq0.false) (c.with_wait.ensures _ stack ∙ rw c.lowest.ensures)

pub returns-else-down : goal.returns-else-down
returns-else-down c stack =
    let key = c in
    let up : key.down.result ≡ false = c.if-down.false in
    rw (key.in-Held.is, ← key.down.ensures, up)
    (c.idle.ensures _ stack ∙ ap (with_wait Idle) (c.put.ensures stack))
