-- Each way out has the test that led there: past an edge of the pattern nothing is shown, and inside it is the pattern's bit.
use mathlib.Core.Bool.{and-false}
use Prim.Native.Nat.{◌+◌, ◌-◌, ◌≤◌, ◌<◌}
use native.Mathlib.Omega.{arith}
use borrow.Author.Tests.{lt-leb, le-leb, le-ltb, lt-ltb}
use lib.ListN.{length}
use Rattle.rules.proofs.Drawn.{bit_lit}
use Rattle.spots.proofs.shown.Goals as goal

pub returns-then-x-column : goal.returns-then-x-column
returns-then-x-column c = let a = c.args in (rw (lt-leb a.column a.x (omega (arith, c.if-x-column.true))), omega arith)

pub returns-then-column-x : goal.returns-then-column-x
returns-then-column-x c = let a = c.args in (rw (le-ltb a.x (a.column + 8) (omega (arith, c.if-x-column.false, c.if-column-x.true)), and-false), omega arith)

pub returns-then-y-row : goal.returns-then-y-row
returns-then-y-row c = let a = c.args in (rw (lt-leb a.row a.y (omega (arith, c.if-y-row.true)), and-false), omega arith)

pub returns-then-pattern-y : goal.returns-then-pattern-y
returns-then-pattern-y c = let a = c.args in (rw (le-ltb a.y (a.row + length a.pattern.now) (omega (arith, c.if-y-row.false, c.if-pattern-y.true)), and-false), omega arith)

pub returns : goal.returns
returns c =
    let a = c.args in
    let from_left : a.column ≤ a.x = omega (arith, c.if-x-column.false) in
    let to_right : a.x < a.column + 8 = omega (arith, c.if-column-x.false) in
    let from_top : a.row ≤ a.y = omega (arith, c.if-y-row.false) in
    let to_bottom : a.y < a.row + length a.pattern.now = omega (arith, c.if-pattern-y.false) in
    (rw (le-leb _ _ from_left, lt-ltb _ _ to_right, le-leb _ _ from_top, lt-ltb _ _ to_bottom), bit_lit (7 - (a.x - a.column)) _)
