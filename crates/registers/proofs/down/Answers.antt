-- A number of 16 bits has no bit from 16 on.
use native.Mathlib.Nat.{div-eq_of_lt, lt_of_lt_of_le}
use lib.Pow.{pow_mono}
use borrow.Author.Tests.{le-ltb}
use Rattle.registers.proofs.down.Goals as goal

pub returns-else-k-lt16 : goal.returns-else-k-lt16
returns-else-k-lt16 c =
    rw (le-ltb _ 16 c.if-k-lt16.false, div-eq_of_lt (lt_of_lt_of_le c.ranges.keys.fits (pow_mono c.if-k-lt16.false)))
