-- As for a change, but for where the zeros begin: the last four of the fields are zeros too.
use mathlib.Core.Path.{refl, ◌∙◌}
use native.Mathlib.Omega.{arith}
use lib.ListN.{take}
use Rattle.rules.specs.declared.Change.TheVariants.{Nothing}
use Rattle.rules.specs.Record.{mark, fields, inputs}
use Rattle.rules.proofs.Back.{inputs_four}
use Rattle.parts.specs.Whole.{whole}
use Rattle.keeping.proofs.Laid.{all_laid, state_blank}
use Rattle.keeping.proofs.write_state.Goals as goal

pub returns : goal.returns
returns c =
    let variables = c in
    let last = variables in
    let clear = last in
    let second = clear in
    let first = second in
    let made = first in
    let start = made in
    let a = start.args.action in
    let v = start.args.v.now in
    let m = whole start.args.c v start.args.stack.now in
    all_laid start.args.place.now (mark Nothing) (take 10 (fields m Nothing)) v (inputs a) 10 (omega arith)
    first.lay.ensures made.mark_of-mark.ensures refl (omega arith)
    (second.lay_state.ensures v Nothing) refl (omega arith)
    clear.clear_from.ensures last.lay-2.ensures made.inputs_of-inputs.ensures (inputs_four a) variables.lay_variables.ensures
    ∙ state_blank m a
