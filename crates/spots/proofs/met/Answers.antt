-- A dark spot is met nowhere, and a lit one where the pattern shows a 1.
use mathlib.Core.Path.{refl}
use native.Mathlib.Omega.{arith}
use Rattle.rules.proofs.Drawn.{shown_lit}
use Rattle.spots.proofs.Walked.{met_dark, met_lit}
use Rattle.spots.proofs.met.Goals as goal

pub bounds-spots-s : goal.bounds-spots-s
bounds-spots-s c = let p = c.requires in omega (arith, p.0.size)

pub returns-then-spots-s-eq0 : goal.returns-then-spots-s-eq0
returns-then-spots-s-eq0 c =
    let a = c.args in
    (met_dark a.spots.now c.requires.0 a.s _ _ (shown_lit a.pattern.now a.column a.row _ _) refl c.if-spots-s-eq0.true, omega arith)

pub shown-requires : goal.shown-requires
shown-requires c = let p = c.requires in (p.1, p.2, omega arith, omega arith)

pub returns : goal.returns
returns c =
    let a = c.args in (
      met_lit a.spots.now c.requires.0 a.s _ _ (shown_lit a.pattern.now a.column a.row _ _) c.shown.ensures.0
          c.if-spots-s-eq0.false,
      c.shown.ensures.1,
    )
