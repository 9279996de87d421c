-- Each arm by the instruction that was matched, and what the callees ensure.
use Rattle.instructions.proofs.effect_of.Goals as goal

pub returns-in-Jump : goal.returns-in-Jump
returns-in-Jump c stack = rw c.in-Jump.is

pub returns-in-JumpFrom : goal.returns-in-JumpFrom
returns-in-JumpFrom c stack = rw (c.in-JumpFrom.is, c.from.ensures, c.get.ensures)

pub returns-in-SkipEqual : goal.returns-in-SkipEqual
returns-in-SkipEqual c stack = rw (c.in-SkipEqual.is, c.skip.ensures, c.get-in-SkipEqual.ensures)

pub returns-in-SkipDiffers : goal.returns-in-SkipDiffers
returns-in-SkipDiffers c stack = rw (c.in-SkipDiffers.is, c.skip-in-SkipDiffers.ensures, c.get-in-SkipDiffers.ensures)

pub returns-in-SkipSame : goal.returns-in-SkipSame
returns-in-SkipSame c stack = rw (c.in-SkipSame.is, c.skip-in-SkipSame.ensures, c.get-in-SkipSame-2.ensures, c.get-in-SkipSame.ensures)

pub returns-in-SkipOther : goal.returns-in-SkipOther
returns-in-SkipOther c stack = rw (c.in-SkipOther.is, c.skip-in-SkipOther.ensures, c.get-in-SkipOther-2.ensures, c.get-in-SkipOther.ensures)

pub returns-in-SkipDown : goal.returns-in-SkipDown
returns-in-SkipDown c stack = rw (c.in-SkipDown.is, c.skip-in-SkipDown.ensures, c.down.ensures, c.get-in-SkipDown.ensures)

pub returns-in-SkipUp : goal.returns-in-SkipUp
returns-in-SkipUp c stack = rw (c.in-SkipUp.is, c.skip-in-SkipUp.ensures, c.down-in-SkipUp.ensures, c.get-in-SkipUp.ensures)

pub returns-in-Put : goal.returns-in-Put
returns-in-Put c stack = rw c.in-Put.is

pub returns-in-Chance : goal.returns-in-Chance
returns-in-Chance c stack = rw c.in-Chance.is

pub returns-in-Copy : goal.returns-in-Copy
returns-in-Copy c stack = rw (c.in-Copy.is, c.get-in-Copy.ensures)

pub returns-in-Or : goal.returns-in-Or
returns-in-Or c stack = rw (c.in-Or.is, c.get-in-Or-2.ensures, c.get-in-Or.ensures)

pub returns-in-And : goal.returns-in-And
returns-in-And c stack = rw (c.in-And.is, c.get-in-And-2.ensures, c.get-in-And.ensures)

pub returns-in-Plus : goal.returns-in-Plus
returns-in-Plus c stack = rw (c.in-Plus.is, c.plus.ensures, c.get-in-Plus-2.ensures, c.get-in-Plus.ensures)

pub returns-in-Minus : goal.returns-in-Minus
returns-in-Minus c stack = rw (c.in-Minus.is, c.minus.ensures, c.get-in-Minus-2.ensures, c.get-in-Minus.ensures)

pub returns-in-Xor : goal.returns-in-Xor
returns-in-Xor c stack = rw (c.in-Xor.is, c.get-in-Xor-2.ensures, c.get-in-Xor.ensures)

pub returns-in-Halve : goal.returns-in-Halve
returns-in-Halve c stack = rw (c.in-Halve.is, c.halved.ensures, c.get-in-Halve.ensures)

pub returns-in-MinusFrom : goal.returns-in-MinusFrom
returns-in-MinusFrom c stack = rw (c.in-MinusFrom.is, c.minus-in-MinusFrom.ensures, c.get-in-MinusFrom-2.ensures, c.get-in-MinusFrom.ensures)

pub returns-in-Double : goal.returns-in-Double
returns-in-Double c stack = rw (c.in-Double.is, c.doubled.ensures, c.get-in-Double.ensures)

pub returns-in-Index : goal.returns-in-Index
returns-in-Index c stack = rw c.in-Index.is

pub returns-in-Digit : goal.returns-in-Digit
returns-in-Digit c stack = rw (c.in-Digit.is, c.from-in-Digit.ensures, c.get-in-Digit.ensures)

pub returns-in-FromDelay : goal.returns-in-FromDelay
returns-in-FromDelay c stack = rw c.in-FromDelay.is

pub returns-in-ToDelay : goal.returns-in-ToDelay
returns-in-ToDelay c stack = rw (c.in-ToDelay.is, c.get-in-ToDelay.ensures)

pub returns-in-ToTone : goal.returns-in-ToTone
returns-in-ToTone c stack = rw (c.in-ToTone.is, c.get-in-ToTone.ensures)
