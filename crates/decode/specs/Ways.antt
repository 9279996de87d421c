-- The ways through a step, and the instructions that take each. A plain instruction acts on the state alone. A quiet one leaves memory and
-- the picture as they are, too, but it can be refused, or reads more than the state. A drawing has at least one row.
use Rattle.std.specs.Prelude.{ℕ, eqb}
use Rattle.rules.specs.declared.Edition.{Edition}
use Rattle.rules.specs.declared.Edition.TheVariants.{First, Second}
use Rattle.rules.specs.declared.Op.{Op}
use Rattle.rules.specs.declared.Op.TheVariants.{Plain, AwaitKey, Call, Return, Clear, Draw, Decimal, Store, Fetch}
use Rattle.rules.specs.declared.Op.TheVariants.{Unlisted, MachineCode}
use Rattle.rules.specs.Number.{pick}
use Rattle.decode.specs.declared.Way.{Way}
use Rattle.decode.specs.declared.Way.TheVariants as way

abbrev pub way_of : Op → Way
way_of (Plain s) = way.Plain
way_of (AwaitKey x) = way.Quiet
way_of (Call a) = way.Quiet
way_of Return = way.Quiet
way_of Clear = way.Other
way_of (Draw x y n) = pick (eqb n 0) way.Quiet way.Drawing
way_of (Decimal x) = way.Other
way_of (Store x) = way.Other
way_of (Fetch x) = way.Quiet
way_of Unlisted = way.Other
way_of MachineCode = way.Other

-- the last digits that 8XYN is listed with, a bit for each: 0, 1, 2, 4 and 5, or 0 to 7 and E
abbrev pub listed_digits : Edition → ℕ
listed_digits First = 0x0037
listed_digits Second = 0x40FF

-- the first digits whose instructions are all plain, a bit for each: 1, 3, 4, 6, 7, A, B and C
abbrev pub plain_digits : ℕ
plain_digits = 0x1CDA
