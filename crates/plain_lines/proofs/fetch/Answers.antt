-- Bytes put from 0 on have nothing before them; the part that is lent holds as many bytes as there are variables.
use Rattle.std.proofs.Common.{◌≡◌, ◌+◌, ◌-◌, length, ◌∙◌, arith, length-drop, length-take, zero-add}
use Rattle.rules.specs.Memory.{part}
use Rattle.rules.specs.State.{up_to}
use Rattle.plain_lines.proofs.fetch.Goals as goal

pub returns : goal.returns
returns c =
    let a = c.args in
    let n = up_to a.x in
    let e : a.m.i + n - a.m.i ≡ n = omega arith in
    let sized : length (part a.memory.now a.m.i n) ≡ n = simp (length-take, length-drop) (omega arith) in
    c.let_pointer.ensures ∙ rw (rw zero-add at c.put.ensures, c.from-at.ensures, c.up_to-count.ensures, e, sized)
