-- A spot and a shown bit are each 0 or 1: where they are equal the spot ends dark, and where they differ lit.
use native.Mathlib.Omega.{arith}
use Rattle.rules.proofs.Drawn.{shown_lit}
use Rattle.spots.proofs.Walked.{turned_dark, turned_lit}
use Rattle.spots.proofs.turned.Goals as goal

pub bounds-spots-s : goal.bounds-spots-s
bounds-spots-s c = let p = c.requires in omega (arith, p.0.size)

pub shown-requires : goal.shown-requires
shown-requires c = let p = c.requires in (p.1, p.2, omega arith, omega arith)

pub returns-then-spots-s : goal.returns-then-spots-s
returns-then-spots-s c =
    let a = c.args in
    (turned_dark a.spots.now c.requires.0 a.s _ _ (shown_lit a.pattern.now a.column a.row _ _) c.shown.ensures.0 c.if-spots-s.true, omega arith)

pub returns : goal.returns
returns c =
    let a = c.args in
    (turned_lit a.spots.now c.requires.0 a.s _ _ (shown_lit a.pattern.now a.column a.row _ _) c.shown.ensures.0 c.if-spots-s.false, omega arith)
