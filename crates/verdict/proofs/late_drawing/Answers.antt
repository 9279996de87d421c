-- Far from both ends by the law; else by what the drawing would turn over.
use mathlib.Core.Path.{sym}
use native.Mathlib.Omega.{arith}
use Rattle.rules.specs.Rows.{bytes_of}
use Rattle.lit.proofs.Laws.{drawn_balance}
use Rattle.verdict.proofs.Laws.{no_look}
use Rattle.verdict.proofs.late_drawing.Goals as goal

pub returns-then-number-most-le-SPOTS : goal.returns-then-number-most-le-SPOTS
returns-then-number-most-le-SPOTS c =
    let a = c.args in
    sym (no_look a.lit a.pattern.now _ _ (bytes_of a.rows.now) c.if-most-number.true c.if-number-most-le-SPOTS.true)

pub late-requires : goal.late-requires
late-requires c =
    let few = c.would_turn.ensures.few in
    (omega (arith, few, c.requires.3), omega (arith, few, c.requires.3))

pub returns : goal.returns
returns c =
    let turned = c.would_turn.ensures in
    c.late.ensures _ _ (drawn_balance _ _ _ _ _ turned.dark turned.lit)
