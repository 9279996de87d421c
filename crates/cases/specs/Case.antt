-- How a worked case is written down, and how it is read: a row of a table says which step is made, on which board, and what holds after it.
use Rattle.std.specs.Prelude.{Bool, true, false, ◌&&◌, List, [], ◌∷◌, ◌++◌, ℕ, ◌-◌, length, replicate, eqb}
use Rattle.rules.specs.declared.Edition.{Edition}
use Rattle.rules.specs.declared.Edition.TheVariants.{First, Second}
use Rattle.rules.specs.declared.Machine.{Machine}
use Rattle.rules.specs.Number.{word, same}
use Rattle.rules.specs.State.{memory_size, picture_size, start_address, fresh, reg, with_reg, with_i, with_pc, with_lit}
use Rattle.rules.specs.Picture.{lit_spots}
use Rattle.rules.specs.Memory.{part, over}
use Rattle.rules.specs.Record.{place_size}
use Rattle.rules.specs.Step.{Board}
use Rattle.rules.specs.World.{World, world, board_of}
use Rattle.rules.specs.Load.{fresh_trail}
use Rattle.rules.specs.Call.{step}

-- a fact of a board: VX is a byte, I is an address, PC is an address, memory has bytes from an address on, the picture is those bytes, the
-- number of lit spots is that, the edition is the second, memory has that end
pub data Fact : Type 0 where
  v : ℕ → ℕ → Fact
  i : ℕ → Fact
  pc : ℕ → Fact
  bytes : ℕ → List ℕ → Fact
  shows : List ℕ → Fact
  lit : ℕ → Fact
  second : Fact
  end : ℕ → Fact

-- a step: the instruction, the refusal or 0, what holds before it, and what holds after it; or two accepted steps of an instruction that
-- stands there twice: what holds before them, between them, and after them
pub data Case : Type 0 where
  case : ℕ → ℕ → List Fact → List Fact → Case
  twice : ℕ → List Fact → List Fact → List Fact → Case

-- a picture that begins with those bytes and is dark behind them
abbrev pub begins : List ℕ → List ℕ
begins l = l ++ replicate (picture_size - length l) 0x00

-- ---- how a row is read

-- the board of a load in the first edition and with end 4,096, with nothing in memory but the program
abbrev bare : List ℕ → Board
bare program =
    record {
      machine = fresh First memory_size;
      memory = over (replicate memory_size 0) start_address program (length program);
      picture = replicate picture_size 0;
    }

-- a state in another edition, and whether it is the second
abbrev with_edition : Edition → Machine → Machine
with_edition e m =
    record {
      v = m.v;
      i = m.i;
      pc = m.pc;
      stack = m.stack;
      depth = m.depth;
      timers = m.timers;
      wait = m.wait;
      edition = e;
      lit = m.lit;
      end = m.end;
    }

-- a state with another end
abbrev with_end : ℕ → Machine → Machine
with_end e m =
    record {
      v = m.v;
      i = m.i;
      pc = m.pc;
      stack = m.stack;
      depth = m.depth;
      timers = m.timers;
      wait = m.wait;
      edition = m.edition;
      lit = m.lit;
      end = e;
    }

abbrev is_second : Edition → Bool
is_second First = false
is_second Second = true

-- a board with a fact made true, where a picture comes with its true number of lit spots; and whether a fact is true of it
abbrev given : Fact → Board → Board
given (v x n) b = record { machine = with_reg x n b.machine; memory = b.memory; picture = b.picture }
given (i a) b = record { machine = with_i a b.machine; memory = b.memory; picture = b.picture }
given (pc a) b = record { machine = with_pc a b.machine; memory = b.memory; picture = b.picture }
given (bytes a l) b = record { machine = b.machine; memory = over b.memory a l (length l); picture = b.picture }
given (shows l) b = record { machine = with_lit (lit_spots l) b.machine; memory = b.memory; picture = l }
given (lit n) b = record { machine = with_lit n b.machine; memory = b.memory; picture = b.picture }
given second b = record { machine = with_edition Second b.machine; memory = b.memory; picture = b.picture }
given (end e) b = record { machine = with_end e b.machine; memory = b.memory; picture = b.picture }

abbrev is_true : Fact → Board → Bool
is_true (v x n) b = eqb (reg b.machine x) n
is_true (i a) b = eqb b.machine.i a
is_true (pc a) b = eqb b.machine.pc a
is_true (bytes a l) b = same (part b.memory a (length l)) l
is_true (shows l) b = same b.picture l
is_true (lit n) b = eqb b.machine.lit n
is_true second b = is_second b.machine.edition
is_true (end e) b = eqb b.machine.end e

abbrev all_given : List Fact → Board → Board
all_given [] b = b
all_given (f ∷ fs) b = all_given fs (given f b)

abbrev all_true : List Fact → Board → Bool
all_true [] b = true
all_true (f ∷ fs) b = is_true f b && all_true fs b

-- beside a history of one place
abbrev pub world_of : Board → World
world_of b = world b.machine fresh_trail b.memory b.picture (replicate place_size 0)

abbrev pub holds : Case → Bool
holds (case op refusal before then) =
    let a = step 0 0 (world_of (all_given before (bare (word op)))) in
    eqb a.refusal refusal && all_true then (board_of a.world)
holds (twice op before between then) =
    let a = step 0 0 (world_of (all_given before (bare (word op ++ word op)))) in
    let b = step 0 0 a.world in
    eqb a.refusal 0 && all_true between (board_of a.world) && eqb b.refusal 0 && all_true then (board_of b.world)

abbrev pub every : List Case → Bool
every [] = true
every (c ∷ cs) = holds c && every cs
