-- The calls: a step, a tick, a step back and a step forward, each as a function from the world that is handed in to what is handed back.
use Rattle.std.specs.Prelude.{not, List, ℕ, ◌+◌, ◌-◌, ◌*◌, get_or, eqb, leb}
use Rattle.rules.specs.declared.Action.{Action}
use Rattle.rules.specs.declared.Action.TheVariants.{Step, Tick}
use Rattle.rules.specs.declared.Timers.{Timers}
use Rattle.rules.specs.declared.Trail.{Trail}
use Rattle.rules.specs.declared.Op.{Op}
use Rattle.rules.specs.declared.Change.{Change}
use Rattle.rules.specs.declared.Change.TheVariants.{Nothing}
use Rattle.rules.specs.declared.Refusal.TheVariants.{PcPastEnd, NothingKept, BufferLength, Unsound, Damaged, NothingAhead}
use Rattle.rules.specs.Number.{pick, unless, or_later}
use Rattle.rules.specs.Refusal.{number_of}
use Rattle.rules.specs.State.{with_timers}
use Rattle.rules.specs.Instruction.{decode}
use Rattle.rules.specs.Memory.{part, over}
use Rattle.rules.specs.Step.{Board, refusal_of, lit_refusal, change_of, counted, after, picture_after}
use Rattle.rules.specs.Record.{place_size, record_of, damaged, kind_sound, action_at, picture_at, change_at, board_at}
use Rattle.rules.specs.World.{World, Answer, world, with_ahead, board_of, places, history_fits, buffers_fit, soundly, answered}

-- ---- an action, a step or a tick

-- the instruction is the byte at PC, then the byte at PC + 1; only here is the edition looked at
abbrev pub op_at : Board → Op
op_at b = decode b.machine.edition (get_or b.memory b.machine.pc 0) (get_or b.memory (b.machine.pc + 1) 0)

-- what stands after it, with its number of lit spots
abbrev pub step_board : ℕ → ℕ → Board → Board
step_board keys random b = counted b (after (op_at b) keys random b.machine b.memory b.picture)

-- each timer that is not 0 falls by one; 0 - 1 is 0
abbrev pub lowered : Timers → Timers
lowered t = record { delay = t.delay - 1; tone = t.tone - 1 }

abbrev pub tick_board : Board → Board
tick_board b = record { machine = with_timers (lowered b.machine.timers) b.machine; memory = b.memory; picture = b.picture }

-- the board that it leads to
abbrev pub board_by : Action → Board → Board
board_by (Step keys random) b = step_board keys random b
board_by Tick b = tick_board b

-- what it changes besides the state
abbrev pub change_by : Action → Board → Change
change_by (Step keys random) b = change_of (op_at b) b.machine
change_by Tick b = Nothing

-- 1, then 2 or 3, then 4, 5 or 6
abbrev pub step_tests : Board → ℕ
step_tests b = unless (leb b.machine.pc (b.machine.end - 2)) (number_of PcPastEnd) (refusal_of (op_at b) b.machine)

-- 10 where the step would take the number of lit spots out of its range
abbrev pub step_late : Board → ℕ
step_late b = lit_refusal b.machine.lit b.picture (picture_after (op_at b) b.machine b.memory b.picture)

-- a step's own numbers: those two, in this order
abbrev pub step_own : Board → ℕ
step_own b = or_later (step_tests b) (step_late b)

-- where it is refused by numbers of its own; a tick has none
abbrev pub own_refusal : Action → Board → ℕ
own_refusal (Step keys random) b = step_own b
own_refusal Tick b = 0

-- ---- what every accepted action does to the history

-- next goes up by one, R becoming 0
abbrev pub next_place : ℕ → ℕ → ℕ
next_place r n = pick (eqb (n + 1) r) 0 (n + 1)

-- kept rises by one to at most R, and nothing stands ahead
abbrev pub grown : ℕ → Trail → Trail
grown r t = record { next = next_place r t.next; kept = pick (eqb t.kept r) r (t.kept + 1); ahead = 0 }

-- the record of what stands before the action, and of its inputs
abbrev pub record_by : Action → Board → List ℕ
record_by a b = record_of (change_by a b) a b

-- the place at next holds that record; the rest of the history is not touched
abbrev pub written : Action → World → List ℕ
written a w = over w.history (place_size * w.trail.next) (record_by a (board_of w)) place_size

-- the world after an accepted action
abbrev pub acted : Action → World → World
acted a w =
    let b = board_by a (board_of w) in
    world b.machine (grown (places w.history) w.trail) b.memory b.picture (written a w)

-- ---- a step

-- 9, 10, then the step's own
unfoldable pub step_refusal : World → ℕ
step_refusal w =
    unless (buffers_fit w) (number_of BufferLength)
    (unless (soundly w) (number_of Unsound)
    (step_own (board_of w)))

unfoldable pub stepped : ℕ → ℕ → World → World
stepped keys random w = acted (Step keys random) w

unfoldable pub step : ℕ → ℕ → World → Answer
step keys random w = answered (step_refusal w) (stepped keys random w) w

-- ---- a tick

-- 9, 10; a tick is lent only the history
unfoldable pub tick_refusal : World → ℕ
tick_refusal w =
    unless (history_fits w.history) (number_of BufferLength)
    (unless (soundly w) (number_of Unsound)
    0)

unfoldable pub ticked : World → World
ticked w = acted Tick w

unfoldable pub tick : World → Answer
tick w = answered (tick_refusal w) (ticked w) w

-- ---- a step back

-- next falls by one, 0 becoming R - 1, and kept by one; ahead rises by one
abbrev pub place_before : ℕ → ℕ → ℕ
place_before r n = pick (eqb n 0) (r - 1) (n - 1)

abbrev pub shrunk : ℕ → Trail → Trail
shrunk r t = record { next = place_before r t.next; kept = t.kept - 1; ahead = t.ahead + 1 }

-- the place before next
abbrev pub last_record : World → List ℕ
last_record w = part w.history (place_size * place_before (places w.history) w.trail.next) place_size

-- 10 where the step back would take the number of lit spots out of its range
abbrev pub back_late : World → ℕ
back_late w = let r = last_record w in lit_refusal w.machine.lit w.picture (picture_at (change_at r) r w.picture)

-- 9, 10, 7, 11, then that 10
unfoldable pub back_refusal : World → ℕ
back_refusal w =
    unless (buffers_fit w) (number_of BufferLength)
    (unless (soundly w) (number_of Unsound)
    (unless (not (eqb w.trail.kept 0)) (number_of NothingKept)
    (unless (not (damaged w.machine.end (last_record w) w.machine.depth)) (number_of Damaged)
    (back_late w))))

-- everything as the record has it; the history keeps its bytes
unfoldable pub undone : List ℕ → World → World
undone r w =
    let b = board_at r (board_of w) in
    world b.machine (shrunk (places w.history) w.trail) b.memory b.picture w.history

unfoldable pub back : World → Answer
back w = answered (back_refusal w) (undone (last_record w) w) w

-- ---- a step forward

-- the place at next
abbrev pub next_record : World → List ℕ
next_record w = part w.history (place_size * w.trail.next) place_size

-- 9, 10, 12, 11, then the own numbers of the record's action
unfoldable pub forward_refusal : World → ℕ
forward_refusal w =
    unless (buffers_fit w) (number_of BufferLength)
    (unless (soundly w) (number_of Unsound)
    (unless (not (eqb w.trail.ahead 0)) (number_of NothingAhead)
    (unless (kind_sound (next_record w)) (number_of Damaged)
    (own_refusal (action_at (next_record w)) (board_of w)))))

-- what the action leads to as a new one does, but ahead falls by one
unfoldable pub redone : Action → World → World
redone a w = with_ahead (w.trail.ahead - 1) (acted a w)

unfoldable pub forward : World → Answer
forward w = answered (forward_refusal w) (redone (action_at (next_record w)) w) w
