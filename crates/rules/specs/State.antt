-- The sizes, the parts of a state, how one part is changed, and which states are sound.
use Rattle.std.specs.Prelude.{Bool, true, ◌&&◌, ◌||◌, List, [], ◌∷◌, ℕ, ◌+◌, ◌*◌, ◌%◌, get_or, set, drop, replicate, eqb, leb}
use Rattle.rules.specs.declared.Edition.{Edition}
use Rattle.rules.specs.declared.Machine.{Machine}
use Rattle.rules.specs.declared.Timers.{Timers}
use Rattle.rules.specs.declared.Wait.{Wait}
use Rattle.rules.specs.declared.Wait.TheVariants.{Idle, Held}

-- ---- the sizes of `impl Machine`

abbrev pub memory_size : ℕ
memory_size = 4096

-- where memory ends in the 2K profile; in the other it ends where the lent bytes do
abbrev pub small_end : ℕ
small_end = 1696

abbrev pub picture_size : ℕ
picture_size = 256

-- the spots of a picture, eight to a byte
abbrev pub spot_count : ℕ
spot_count = 8 * picture_size

abbrev pub stack_size : ℕ
stack_size = 12

abbrev pub start_address : ℕ
start_address = 0x0200

-- ---- a state with one part changed

abbrev pub with_v : List ℕ → Machine → Machine
with_v v m =
    record { v = v; i = m.i; pc = m.pc; stack = m.stack; depth = m.depth; timers = m.timers; wait = m.wait; edition = m.edition; lit = m.lit; end = m.end }

abbrev pub with_i : ℕ → Machine → Machine
with_i i m =
    record { v = m.v; i = i; pc = m.pc; stack = m.stack; depth = m.depth; timers = m.timers; wait = m.wait; edition = m.edition; lit = m.lit; end = m.end }

abbrev pub with_pc : ℕ → Machine → Machine
with_pc pc m =
    record { v = m.v; i = m.i; pc = pc; stack = m.stack; depth = m.depth; timers = m.timers; wait = m.wait; edition = m.edition; lit = m.lit; end = m.end }

abbrev pub with_stack : List ℕ → ℕ → Machine → Machine
with_stack s d m =
    record { v = m.v; i = m.i; pc = m.pc; stack = s; depth = d; timers = m.timers; wait = m.wait; edition = m.edition; lit = m.lit; end = m.end }

abbrev pub with_timers : Timers → Machine → Machine
with_timers t m =
    record { v = m.v; i = m.i; pc = m.pc; stack = m.stack; depth = m.depth; timers = t; wait = m.wait; edition = m.edition; lit = m.lit; end = m.end }

abbrev pub with_wait : Wait → Machine → Machine
with_wait w m =
    record { v = m.v; i = m.i; pc = m.pc; stack = m.stack; depth = m.depth; timers = m.timers; wait = w; edition = m.edition; lit = m.lit; end = m.end }

abbrev pub with_lit : ℕ → Machine → Machine
with_lit n m =
    record { v = m.v; i = m.i; pc = m.pc; stack = m.stack; depth = m.depth; timers = m.timers; wait = m.wait; edition = m.edition; lit = n; end = m.end }

-- VX, and the state with VX changed; a register's number is the low four bits
abbrev pub reg : Machine → ℕ → ℕ
reg m x = get_or m.v (x % 16) 0

abbrev pub with_reg : ℕ → ℕ → Machine → Machine
with_reg x b m = with_v (set m.v (x % 16) b) m

-- how many registers V0 to VX are
abbrev pub up_to : ℕ → ℕ
up_to x = x % 16 + 1

-- ---- the state after a load, and the sound states

abbrev pub fresh : Edition → ℕ → Machine
fresh edition end =
    record {
      v = replicate 16 0;
      i = 0;
      pc = start_address;
      stack = replicate stack_size 0;
      depth = 0;
      timers = record { delay = 0; tone = 0 };
      wait = Idle;
      edition = edition;
      lit = 0;
      end = end;
    }

-- what a load chooses, and nothing else changes
pub record Chosen : Type 0 where
  pub edition : Edition
  pub end : ℕ

abbrev pub chosen : Machine → Chosen
chosen m = record { edition = m.edition; end = m.end }

-- each of them is 0
abbrev pub zeros : List ℕ → Bool
zeros [] = true
zeros (x ∷ xs) = eqb x 0 && zeros xs

abbrev pub held_sound : Wait → Bool
held_sound Idle = true
held_sound (Held k) = leb k 15

-- the two ends in use
abbrev pub end_sound : ℕ → Bool
end_sound end = eqb end small_end || eqb end memory_size

abbrev pub sound : Machine → Bool
sound m =
    leb m.depth stack_size && zeros (drop m.depth m.stack) && held_sound m.wait && leb m.lit spot_count && end_sound m.end
