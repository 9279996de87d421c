-- The paper's number of each refusal; 0 where a call did its work.
use Rattle.std.specs.Prelude.{ℕ, Result, Ok, Err, ⊤}
use Rattle.rules.specs.declared.Refusal.{Refusal}
use Rattle.rules.specs.declared.Refusal.TheVariants.{PcPastEnd, Unlisted, MachineCode, StackFull, StackEmpty, MemoryPastEnd}
use Rattle.rules.specs.declared.Refusal.TheVariants.{NothingKept, ProgramLength, BufferLength, Unsound, Damaged, NothingAhead}

abbrev pub number_of : Refusal → ℕ
number_of PcPastEnd = 1
number_of Unlisted = 2
number_of MachineCode = 3
number_of StackFull = 4
number_of StackEmpty = 5
number_of MemoryPastEnd = 6
number_of NothingKept = 7
number_of ProgramLength = 8
number_of BufferLength = 9
number_of Unsound = 10
number_of Damaged = 11
number_of NothingAhead = 12

-- what comes of a call that answers nothing beside it, and of one that did its work
abbrev pub Outcome : Type 0
Outcome = Result ⊤ Refusal

abbrev pub done : Outcome
done = Ok _

-- its number, whatever a call answers beside it
abbrev pub number : {A : Type 0} → Result A Refusal → ℕ
number (Ok _) = 0
number (Err r) = number_of r
