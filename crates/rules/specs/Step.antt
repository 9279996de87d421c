-- One step: where it is refused, what it changes, and what stands after it.
use Rattle.std.specs.Prelude.{◌&&◌, List, ◌++◌, ℕ, ◌+◌, ◌-◌, ◌*◌, ◌%◌, min, take, drop, replicate, eqb, ltb, leb}
use Rattle.rules.specs.declared.Machine.{Machine}
use Rattle.rules.specs.declared.Wait.TheVariants.{Idle}
use Rattle.rules.specs.declared.Op.{Op}
use Rattle.rules.specs.declared.Op.TheVariants.{Plain, AwaitKey, Call, Return, Clear, Draw, Decimal, Store, Fetch}
use Rattle.rules.specs.declared.Op.TheVariants.{Unlisted, MachineCode}
use Rattle.rules.specs.declared.Change.{Change}
use Rattle.rules.specs.declared.Change.TheVariants.{Nothing, InMemory, InPicture}
use Rattle.rules.specs.declared.Refusal.TheVariants as refusal
use Rattle.rules.specs.declared.Refusal.TheVariants.{StackFull, StackEmpty, MemoryPastEnd, Unsound}
use Rattle.rules.specs.Number.{pick, unless, same}
use Rattle.rules.specs.Refusal.{number_of}
use Rattle.rules.specs.State.{picture_size, spot_count, stack_size, reg, up_to, with_v, with_i, with_reg, with_wait, with_lit}
use Rattle.rules.specs.Registers.{simple, awaited, called, returned, onward}
use Rattle.rules.specs.Picture.{drawn, darkened, lit_spots}
use Rattle.rules.specs.Memory.{over, part, digits_of}

-- ---- where it is refused

-- the end of the n bytes of memory that it needs from I on; 0 where it needs none
abbrev pub reach : Machine → ℕ → ℕ
reach m n = pick (eqb n 0) 0 (m.i + n)

abbrev pub past : Machine → ℕ → ℕ
past m n = unless (leb (reach m n) m.end) (number_of MemoryPastEnd) 0

unfoldable pub refusal_of : Op → Machine → ℕ
refusal_of (Plain s) m = 0
refusal_of (AwaitKey x) m = 0
refusal_of (Call a) m = unless (ltb m.depth stack_size) (number_of StackFull) 0
refusal_of Return m = unless (ltb 0 m.depth) (number_of StackEmpty) 0
refusal_of Clear m = 0
refusal_of (Draw x y n) m = past m n
refusal_of (Decimal x) m = past m 3
refusal_of (Store x) m = past m (up_to x)
refusal_of (Fetch x) m = past m (up_to x)
refusal_of Unlisted m = number_of refusal.Unlisted
refusal_of MachineCode m = number_of refusal.MachineCode

-- ---- the number of lit spots, where a picture takes the place of the one before it

-- the number as it was, with what is lit after the change and without what was lit before; where nothing changes nothing is counted
unfoldable pub lit_after : ℕ → List ℕ → List ℕ → ℕ
lit_after lit before after = pick (same before after) lit (lit + lit_spots after - lit_spots before)

-- 10 where that would be below 0 or above 2,048
unfoldable pub lit_refusal : ℕ → List ℕ → List ℕ → ℕ
lit_refusal lit before after =
    let sum = lit + lit_spots after in
    unless
    (pick (same before after) (leb lit spot_count) (leb (lit_spots before) sum && leb sum (lit_spots before + spot_count)))
    (number_of Unsound) 0

-- ---- what it changes besides the state

abbrev pub column : Machine → ℕ → ℕ
column m x = reg m x % 64

abbrev pub row : Machine → ℕ → ℕ
row m y = reg m y % 32

-- how many bytes n rows are, from row r on: none below the last row
abbrev pub row_bytes : ℕ → ℕ → ℕ
row_bytes n r = 8 * min n (32 - r)

abbrev pub rows_change : ℕ → ℕ → Change
rows_change n r = pick (eqb n 0) Nothing (InPicture (8 * r) (row_bytes n r))

unfoldable pub change_of : Op → Machine → Change
change_of (Plain s) m = Nothing
change_of (AwaitKey x) m = Nothing
change_of (Call a) m = Nothing
change_of Return m = Nothing
change_of Clear m = InPicture 0 picture_size
change_of (Draw x y n) m = rows_change n (row m y)
change_of (Decimal x) m = InMemory m.i 3
change_of (Store x) m = InMemory m.i (up_to x)
change_of (Fetch x) m = Nothing
change_of Unlisted m = Nothing
change_of MachineCode m = Nothing

-- ---- what stands after it

pub record Board : Type 0 where
  pub machine : Machine
  pub memory : List ℕ
  pub picture : List ℕ

-- every instruction but FX0A sets the wait to none
abbrev pub board : Machine → List ℕ → List ℕ → Board
board m memory picture = record { machine = with_wait Idle m; memory = memory; picture = picture }

-- the second board, with the number of the first brought from its picture to the second's
abbrev pub counted : Board → Board → Board
counted b c =
    record {
      machine = with_lit (lit_after b.machine.lit b.picture c.picture) c.machine;
      memory = c.memory;
      picture = c.picture;
    }

-- all but the number of lit spots
unfoldable pub after : Op → ℕ → ℕ → Machine → List ℕ → List ℕ → Board
after (Plain s) keys random m memory picture = board (simple s keys random m) memory picture
after (AwaitKey x) keys random m memory picture = record { machine = awaited x keys m m.wait; memory = memory; picture = picture }
after (Call a) keys random m memory picture = board (called a m) memory picture
after Return keys random m memory picture = board (returned m) memory picture
after Clear keys random m memory picture = board (onward m) memory (replicate picture_size 0)
after (Draw x y n) keys random m memory picture =
    let pattern = part memory m.i n in
    let dark = darkened pattern (column m x) (row m y) picture in
    board (onward (with_reg 0xF (pick (ltb 0 dark) 1 0) m)) memory (drawn pattern (column m x) (row m y) picture)
after (Decimal x) keys random m memory picture = board (onward m) (over memory m.i (digits_of (reg m x)) 3) picture
after (Store x) keys random m memory picture =
    board (onward (with_i (m.i + up_to x) m)) (over memory m.i (take (up_to x) m.v) (up_to x)) picture
after (Fetch x) keys random m memory picture =
    board (onward (with_i (m.i + up_to x) (with_v (part memory m.i (up_to x) ++ drop (up_to x) m.v) m))) memory picture
-- these two are always refused, so what they would lead to is never read
after Unlisted keys random m memory picture = board m memory picture
after MachineCode keys random m memory picture = board m memory picture

-- the picture after it, the same whatever the keys and the random byte are
abbrev pub picture_after : Op → Machine → List ℕ → List ℕ → List ℕ
picture_after op m memory picture = (after op 0 0 m memory picture).picture
