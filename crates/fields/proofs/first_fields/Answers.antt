-- The number is put together from its eight bytes, each of which fits by its type.
use Prim.Native.Nat.{◌<◌}
use native.Mathlib.Omega.{arith}
use borrow.Author.Rules.{rules}
use Rattle.memory.proofs.Numbers.{eight_bytes}
use Rattle.fields.proofs.first_fields.Goals as goal

pub returns : goal.returns
returns c =
    let a = c.args in
    let i : a.c.i < 65536 = search rules in
    let pc : a.c.pc < 65536 = search rules in
    let depth : a.c.depth < 256 = search rules in
    let delay : a.c.timers.delay < 256 = search rules in
    let last : a.last < 65536 = search rules in
    rw (c.from.ensures, c.from-2.ensures, c.from-3.ensures, c.from-4.ensures, c.from-5.ensures)
    (eight_bytes _ _ _ _ _ _ _ _ _ (omega arith) (omega arith) (omega arith) (omega arith) (omega arith) (omega arith) (omega arith)
    (omega arith) (omega arith))
