-- The row is copied behind itself, and all else stands as it was.
use mathlib.Core.Path.{◌∙◌}
use Prim.Native.Nat.{◌*◌}
use Rattle.std.proofs.lemmas.List.{take_rest}
use Rattle.panel.proofs.Dots.{row_repeated}
use Rattle.panel.proofs.repeat_row.Goals as goal

pub returns : goal.returns
returns c =
    let parts = c.split_at_mut-upper in
    row_repeated c.args.panel.now parts.result.0.now parts.result.1.now _ c.args.y c.told-panel c.requires parts.ensures.front parts.ensures.back
    (c.copy_from_slice.ensures.after ∙ take_rest parts.result.0.now (32 * c.args.y))
