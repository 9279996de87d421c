-- The history record: 292 bytes that keep what stood before an action, and the action's inputs.
use Rattle.std.specs.Prelude.{Bool, true, not, ◌&&◌, ◌||◌, List, [], ◌∷◌, ◌++◌, ℕ, ◌+◌, ◌-◌, ◌*◌, ◌%◌, get_or, set, take, replicate, eqb, leb}
use Rattle.rules.specs.declared.Machine.{Machine}
use Rattle.rules.specs.declared.Wait.{Wait}
use Rattle.rules.specs.declared.Wait.TheVariants.{Idle, Held}
use Rattle.rules.specs.declared.Action.{Action}
use Rattle.rules.specs.declared.Action.TheVariants.{Step, Tick}
use Rattle.rules.specs.declared.Change.{Change}
use Rattle.rules.specs.declared.Change.TheVariants.{Nothing, InMemory, InPicture}
use Rattle.rules.specs.Number.{pick, word}
use Rattle.rules.specs.Byte.{wait_of}
use Rattle.rules.specs.State.{picture_size, stack_size}
use Rattle.rules.specs.Memory.{part, over}
use Rattle.rules.specs.Step.{Board, counted}

abbrev pub place_size : ℕ
place_size = 292

-- ---- the table of offsets

abbrev pub at_mark : ℕ
at_mark = 0

abbrev pub at_v : ℕ
at_v = 2

abbrev pub at_i : ℕ
at_i = 18

abbrev pub at_pc : ℕ
at_pc = 20

abbrev pub at_depth : ℕ
at_depth = 22

abbrev pub at_last : ℕ
at_last = 23

abbrev pub at_delay : ℕ
at_delay = 25

abbrev pub at_tone : ℕ
at_tone = 26

abbrev pub at_held : ℕ
at_held = 27

abbrev pub at_start : ℕ
at_start = 28

abbrev pub at_count : ℕ
at_count = 30

abbrev pub at_old : ℕ
at_old = 32

abbrev pub at_keys : ℕ
at_keys = 288

abbrev pub at_random : ℕ
at_random = 290

abbrev pub at_kind : ℕ
at_kind = 291

-- ---- a change

abbrev pub mark : Change → List ℕ
mark Nothing = 0x4E ∷ 0x4F ∷ []
mark (InMemory s n) = 0x4D ∷ 0x45 ∷ []
mark (InPicture s n) = 0x44 ∷ 0x49 ∷ []

abbrev pub start : Change → ℕ
start Nothing = 0
start (InMemory s n) = s
start (InPicture s n) = s

abbrev pub count : Change → ℕ
count Nothing = 0
count (InMemory s n) = n
count (InPicture s n) = n

-- at most 16 bytes, all of them in memory, which has that end, or at most the whole picture
abbrev pub allowed : ℕ → Change → Bool
allowed end Nothing = true
allowed end (InMemory s n) = leb 1 n && leb n 16 && leb (s + n) end
allowed end (InPicture s n) = leb 1 n && leb n picture_size && leb (s + n) picture_size

-- the bytes that are about to change
abbrev pub old : Change → List ℕ → List ℕ → List ℕ
old Nothing memory picture = []
old (InMemory s n) memory picture = part memory s n
old (InPicture s n) memory picture = part picture s n

-- ---- writing one

abbrev pub last_return : Machine → ℕ
last_return m = pick (eqb m.depth 0) 0 (get_or m.stack (m.depth - 1) 0)

abbrev pub held_byte : Wait → ℕ
held_byte Idle = 0xFF
held_byte (Held k) = k

-- what follows the registers: the parts stand in the table's order, and reading at the table's offsets gives each of them back, as
-- proofs/Back.antt shows (`reads`)
abbrev pub fields : Machine → Change → List ℕ
fields m c =
    word m.i ++ word m.pc ++ (m.depth ∷ []) ++ word (last_return m)
    ++ (m.timers.delay ∷ m.timers.tone ∷ held_byte m.wait ∷ []) ++ word (start c) ++ word (count c)

-- what stands last: the key bits, the random byte, and 1 for a step; 0 for a tick, with no keys and no random byte
abbrev pub inputs : Action → List ℕ
inputs (Step keys random) = word keys ++ (random % 256 ∷ 1 ∷ [])
inputs Tick = word 0 ++ (0 ∷ 0 ∷ [])

-- with the bytes that are about to change
unfoldable pub record_with : Machine → Change → List ℕ → Action → List ℕ
record_with m c bytes a = mark c ++ m.v ++ fields m c ++ bytes ++ replicate (at_keys - at_old - count c) 0 ++ inputs a

abbrev pub record_of : Change → Action → Board → List ℕ
record_of c a b = record_with b.machine c (old c b.memory b.picture) a

-- ---- reading one

abbrev pub byte_at : List ℕ → ℕ → ℕ
byte_at r n = get_or r n 0

abbrev pub word_at : List ℕ → ℕ → ℕ
word_at r n = 256 * byte_at r n + byte_at r (n + 1)

abbrev pub marked : List ℕ → ℕ → ℕ → Bool
marked r a b = eqb (byte_at r at_mark) a && eqb (byte_at r (at_mark + 1)) b

abbrev pub change_at : List ℕ → Change
change_at r =
    pick (marked r 0x4D 0x45) (InMemory (word_at r at_start) (word_at r at_count))
    (pick (marked r 0x44 0x49) (InPicture (word_at r at_start) (word_at r at_count))
    Nothing)

-- its mark is known, and where it is NO the start and the count are 0
abbrev pub known : List ℕ → Bool
known r = marked r 0x4D 0x45 || marked r 0x44 0x49 || (marked r 0x4E 0x4F && eqb (word_at r at_start) 0 && eqb (word_at r at_count) 0)

-- its start and count are what the mark allows
abbrev pub change_sound : ℕ → List ℕ → Bool
change_sound end r = known r && allowed end (change_at r)

abbrev pub depth_sound : List ℕ → ℕ → Bool
depth_sound r present =
    leb (byte_at r at_depth) stack_size && leb (byte_at r at_depth) (present + 1) && leb present (byte_at r at_depth + 1)
    && (not (eqb (byte_at r at_depth) 0) || eqb (word_at r at_last) 0)

abbrev pub key_sound : List ℕ → Bool
key_sound r = leb (byte_at r at_held) 15 || eqb (byte_at r at_held) 0xFF

-- its last byte is 0 or 1
abbrev pub kind_sound : List ℕ → Bool
kind_sound r = leb (byte_at r at_kind) 1

-- beside a state of that end and that depth
abbrev pub damaged : ℕ → List ℕ → ℕ → Bool
damaged end r present = not (change_sound end r && depth_sound r present && key_sound r && kind_sound r)

-- the action that it was written beside
abbrev pub action_at : List ℕ → Action
action_at r = pick (eqb (byte_at r at_kind) 1) (Step (word_at r at_keys) (byte_at r at_random)) Tick

abbrev pub wait_at : List ℕ → Wait
wait_at r = wait_of (byte_at r at_held)

-- the old depth, its last return address put back, and nothing at or above it
abbrev pub stack_at : List ℕ → List ℕ → List ℕ
stack_at r stack = take (byte_at r at_depth) (set stack (byte_at r at_depth - 1) (word_at r at_last)) ++ replicate (stack_size - byte_at r at_depth) 0

-- all but the edition and the end, which a load chose, and the number of lit spots: of these a record keeps nothing
abbrev pub machine_at : List ℕ → Machine → Machine
machine_at r m =
    record {
      v = part r at_v 16;
      i = word_at r at_i;
      pc = word_at r at_pc;
      stack = stack_at r m.stack;
      depth = byte_at r at_depth;
      timers = record { delay = byte_at r at_delay; tone = byte_at r at_tone };
      wait = wait_at r;
      edition = m.edition;
      lit = m.lit;
      end = m.end;
    }

abbrev pub memory_at : Change → List ℕ → List ℕ → List ℕ
memory_at Nothing r memory = memory
memory_at (InMemory s n) r memory = over memory s (part r at_old n) n
memory_at (InPicture s n) r memory = memory

abbrev pub picture_at : Change → List ℕ → List ℕ → List ℕ
picture_at Nothing r picture = picture
picture_at (InMemory s n) r picture = picture
picture_at (InPicture s n) r picture = over picture s (part r at_old n) n

-- the board that it gives back, with the number of lit spots brought to its picture
abbrev pub board_at : List ℕ → Board → Board
board_at r b =
    counted b
    (record {
      machine = machine_at r b.machine;
      memory = memory_at (change_at r) r b.memory;
      picture = picture_at (change_at r) r b.picture;
    })
