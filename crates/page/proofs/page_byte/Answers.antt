-- What stands behind PC is dark, and so is the line below a pattern, which the shape's own promise says.
use mathlib.Core.Path.{◌≡◌}
use mathlib.Core.Bool.{and-false, and-true}
use Prim.Native.Nat.{◌%◌}
use native.Mathlib.Omega.{arith}
use borrow.Author.Tests.{lt-ltb, le-ltb}
use Rattle.page.specs.Bytes.{page_byte, place}
use Rattle.page.proofs.page_byte.Goals as goal

pub returns-then-place-ge18 : goal.returns-then-place-ge18
unfolding page_byte
returns-then-place-ge18 c = rw (le-ltb (place c.args.at) 18 (omega arith), and-false)

pub returns : goal.returns
unfolding page_byte
returns c =
    let at = c.args.at in
    let d = c.digit.result in
    let whole : d % 16 ≡ d = omega (arith, c.digit.ensures.1) in
    rw (lt-ltb (place at) 18 (omega arith), and-true, c.shape_line.ensures, whole, c.digit.ensures.0, c.value.ensures)
