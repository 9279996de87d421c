-- The whole trace of a program, by the rules of the machine.
use Rattle.std.specs.Prelude.{List, ◌++◌, ℕ, zero, suc, ◌+◌, ◌*◌, get_or, replicate, eqb}
use Rattle.rules.specs.declared.Edition.{Edition}
use Rattle.rules.specs.Number.{pick}
use Rattle.rules.specs.State.{memory_size, picture_size, reg}
use Rattle.rules.specs.Record.{place_size}
use Rattle.rules.specs.World.{World}
use Rattle.rules.specs.Load.{load}
use Rattle.rules.specs.Call.{step}
use Rattle.line.specs.Line.{header, step_line, stop_line}

-- the two bytes at PC, as one number
abbrev pub word_at : List ℕ → ℕ → ℕ
word_at memory pc = 256 * get_or memory pc 0 + get_or memory (pc + 1) 0

-- PC and the instruction are those before the step, the registers those after it
abbrev pub line_of : ℕ → World → World → List ℕ
line_of n before after =
    let m = after.machine in
    step_line n before.machine.pc (word_at before.memory before.machine.pc) m.i (reg m 0x0) (reg m 0xF)

-- at most `left` steps, with no keys and random byte 0, of which the next is number n; then why it stopped, 0 for no refusal
unfoldable pub steps_from : ℕ → ℕ → World → List ℕ
steps_from zero n w = stop_line 0 w.machine.pc
steps_from (suc left) n w =
    let a = step 0 0 w in
    pick (eqb a.refusal 0) (line_of n w a.world ++ steps_from left (n + 1) a.world) (stop_line a.refusal w.machine.pc)

-- ---- the buffers before the load; a history of one place is enough where nothing goes back

abbrev pub blank_memory : List ℕ
blank_memory = replicate memory_size 0

abbrev pub blank_picture : List ℕ
blank_picture = replicate picture_size 0

abbrev pub blank_history : List ℕ
blank_history = replicate place_size 0

-- document 01's trace has the first edition and the end 4,096
unfoldable pub trace_of : Edition → ℕ → List ℕ → List ℕ
trace_of edition end program =
    let a = load edition end program blank_memory blank_picture blank_history in
    header ++ pick (eqb a.refusal 0) (steps_from 64 1 a.world) (stop_line a.refusal a.world.machine.pc)
