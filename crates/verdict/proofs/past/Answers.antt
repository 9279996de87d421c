-- Each way out has the tests that led there.
use Prim.Native.Nat.{◌+◌}
use native.Mathlib.Omega.{arith}
use borrow.Author.Tests.{eq-eqb, ne_eqb, le-leb, lt-leb}
use Rattle.verdict.proofs.past.Goals as goal

pub returns-then-n-eq0 : goal.returns-then-n-eq0
returns-then-n-eq0 c v stack = rw (eq-eqb _ 0 c.if-n-eq0.true, le-leb 0 c.args.c.end (omega arith))

pub returns-then-c-n : goal.returns-then-c-n
returns-then-c-n c v stack =
    let a = c.args in
    rw (ne_eqb _ 0 c.if-n-eq0.false, le-leb (a.c.i + a.n) a.c.end c.if-c-n.true)

pub returns : goal.returns
returns c v stack =
    let a = c.args in
    rw (ne_eqb _ 0 c.if-n-eq0.false, lt-leb (a.c.i + a.n) a.c.end c.if-c-n.false)
