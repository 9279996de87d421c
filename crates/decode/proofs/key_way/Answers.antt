-- An arm by the number that it matches; the last arm by the numbers that were passed over.
use borrow.Author.Tests.{ne_eqb}
use Rattle.decode.proofs.key_way.Goals as goal

pub returns-in-158 : goal.returns-in-158
returns-in-158 c x = rw c.in-158.is

pub returns-in-161 : goal.returns-in-161
returns-in-161 c x = rw c.in-161.is

pub returns-in_default : goal.returns-in_default
returns-in_default c x = simp (ne_eqb _ _ c.in_default.in_default-own.rest.1, ne_eqb _ _ c.in_default.in_default-own.rest.0.1)
