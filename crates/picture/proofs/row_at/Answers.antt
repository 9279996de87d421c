-- Eight bytes of the slice are the row's.
use mathlib.Core.Path.{◌≡◌, ap, ◌∙◌}
use Rattle.std.proofs.Common.{rules}
use Rattle.std.specs.Int.{w64, from_be_bytes}
use Rattle.rules.specs.Memory.{part}
use Rattle.picture.proofs.PutRow.{row_of}
use Rattle.picture.proofs.row_at.Goals as goal

pub returns : goal.returns
returns c =
    let eight : c.unwrap.result.now ≡ part c.args.bytes.now c.args.k 8 = search rules in
    c.from_be_bytes.ensures ∙ ap (from_be_bytes w64) eight ∙ row_of c.args.bytes.now c.args.k
