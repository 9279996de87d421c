-- A number of 16 bits has no bit from 16 on.
use Rattle.std.proofs.Common.{lt_of_lt_of_le, pow_mono}
use native.Mathlib.Nat.{div-eq_of_lt}
use borrow.Author.Tests.{le-ltb}
use Rattle.plain_lines.proofs.is_down.Goals as goal

pub returns-else-key-lt16 : goal.returns-else-key-lt16
returns-else-key-lt16 c = rw (le-ltb _ _ c.if-key-lt16.false, div-eq_of_lt (lt_of_lt_of_le c.ranges.keys.fits (pow_mono c.if-key-lt16.false)))
