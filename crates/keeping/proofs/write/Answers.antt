-- The mark and the fields are laid, then zeros, the inputs behind the last of them, and the variables between mark and fields.
use mathlib.Core.Path.{refl}
use native.Mathlib.Omega.{arith}
use Rattle.rules.specs.Record.{mark, fields, inputs}
use Rattle.rules.proofs.Back.{mark_two, inputs_four}
use Rattle.parts.specs.Whole.{whole}
use Rattle.keeping.specs.Writable.{blank}
use Rattle.keeping.proofs.Laid.{all_laid}
use Rattle.keeping.proofs.write.Goals as goal

pub returns : goal.returns
unfolding blank
returns c =
    let variables = c in
    let last = variables in
    let clear = last in
    let second = clear in
    let first = second in
    let made = first in
    let start = made in
    let ch = start.args.change in
    let a = start.args.action in
    let v = start.args.v.now in
    let f = fields (whole start.args.c v start.args.stack.now) ch in
    all_laid start.args.place.now (mark ch) f v (inputs a) 14 (omega arith)
    first.lay.ensures made.mark_of-mark.ensures (mark_two ch) (omega arith)
    (second.lay_fields.ensures v) refl (omega arith)
    clear.clear_from.ensures last.lay-2.ensures made.inputs_of-inputs.ensures (inputs_four a) variables.lay_variables.ensures
