-- What each instruction does to the state, as far as memory and picture play no part.
use Rattle.std.specs.Prelude.{Bool, false, ℕ, zero, suc, ◌+◌, ◌-◌, ◌*◌, ◌/◌, ◌%◌, get_or, set, eqb, ltb, leb}
use Rattle.std.specs.Int.Bits.{bit_and, bit_or, bit_xor}
use Rattle.rules.specs.declared.Machine.{Machine}
use Rattle.rules.specs.declared.Wait.{Wait}
use Rattle.rules.specs.declared.Wait.TheVariants.{Idle, Held}
use Rattle.rules.specs.declared.Simple.{Simple}
use Rattle.rules.specs.declared.Simple.TheVariants.{Jump, JumpFrom, SkipEqual, SkipDiffers, SkipSame, SkipOther, SkipDown, SkipUp}
use Rattle.rules.specs.declared.Simple.TheVariants.{Put, Add, Chance, Copy, Or, And, Plus, Minus, Xor, Halve, MinusFrom, Double}
use Rattle.rules.specs.declared.Simple.TheVariants.{Index, AddIndex, Digit, FromDelay, ToDelay, ToTone}
use Rattle.rules.specs.Number.{pick, is_one}
use Rattle.rules.specs.State.{reg, with_reg, with_i, with_pc, with_timers, with_stack, with_wait}

-- PC past this instruction
abbrev pub onward : Machine → Machine
onward m = with_pc (m.pc + 2) m

-- past the next one too where the test holds
abbrev pub skip_if : Bool → Machine → Machine
skip_if b m = with_pc (m.pc + pick b 4 2) m

-- and where it does not
abbrev pub skip_unless : Bool → Machine → Machine
skip_unless b m = with_pc (m.pc + pick b 2 4) m

-- the result to VX, and then the flag to VF
abbrev pub flagged : ℕ → ℕ → Bool → Machine → Machine
flagged x b f m = with_reg 0xF (pick f 1 0) (with_reg x b m)

-- ---- keys

abbrev pub down : ℕ → ℕ → Bool
down keys k = is_one k keys

-- the lowest key that is down, of k and the `left` keys after it, of which one is
abbrev pub lowest_from : ℕ → ℕ → ℕ → ℕ
lowest_from zero k keys = k
lowest_from (suc left) k keys = pick (down keys k) k (lowest_from left (k + 1) keys)

-- FX0A
abbrev pub awaited : ℕ → ℕ → Machine → Wait → Machine
awaited x keys m Idle = pick (eqb keys 0) m (with_wait (Held (lowest_from 15 0 keys)) m)
awaited x keys m (Held k) = pick (down keys k) m (onward (with_wait Idle (with_reg x k m)))

-- ---- the instructions that act on the state alone; BMMM cuts MMM to twelve bits, so that the sum fits PC whatever number is handed in

abbrev pub simple : Simple → ℕ → ℕ → Machine → Machine
simple (Jump a) keys random m = with_pc a m
simple (JumpFrom a) keys random m = with_pc (a % 4096 + reg m 0) m
simple (SkipEqual x kk) keys random m = skip_if (eqb (reg m x) kk) m
simple (SkipDiffers x kk) keys random m = skip_unless (eqb (reg m x) kk) m
simple (SkipSame x y) keys random m = skip_if (eqb (reg m x) (reg m y)) m
simple (SkipOther x y) keys random m = skip_unless (eqb (reg m x) (reg m y)) m
simple (SkipDown x) keys random m = skip_if (down keys (reg m x % 16)) m
simple (SkipUp x) keys random m = skip_unless (down keys (reg m x % 16)) m
simple (Put x kk) keys random m = onward (with_reg x kk m)
simple (Add x kk) keys random m = onward (with_reg x ((reg m x + kk) % 256) m)
simple (Chance x kk) keys random m = onward (with_reg x (bit_and random kk) m)
simple (Copy x y) keys random m = onward (with_reg x (reg m y) m)
simple (Or x y) keys random m = onward (flagged x (bit_or (reg m x) (reg m y)) false m)
simple (And x y) keys random m = onward (flagged x (bit_and (reg m x) (reg m y)) false m)
simple (Plus x y) keys random m = onward (flagged x ((reg m x + reg m y) % 256) (ltb 255 (reg m x + reg m y)) m)
simple (Minus x y) keys random m = onward (flagged x ((reg m x + 256 - reg m y) % 256) (leb (reg m y) (reg m x)) m)
simple (Xor x y) keys random m = onward (flagged x (bit_xor (reg m x) (reg m y)) false m)
simple (Halve x y) keys random m = onward (flagged x (reg m y / 2) (is_one 0 (reg m y)) m)
simple (MinusFrom x y) keys random m = onward (flagged x ((reg m y + 256 - reg m x) % 256) (leb (reg m x) (reg m y)) m)
simple (Double x y) keys random m = onward (flagged x (2 * reg m y % 256) (is_one 7 (reg m y)) m)
simple (Index a) keys random m = onward (with_i a m)
simple (AddIndex x) keys random m = onward (with_i ((m.i + reg m x) % 65536) m)
simple (Digit x) keys random m = onward (with_i (5 * (reg m x % 16)) m)
simple (FromDelay x) keys random m = onward (with_reg x m.timers.delay m)
simple (ToDelay x) keys random m = onward (with_timers (record { delay = reg m x; tone = m.timers.tone }) m)
simple (ToTone x) keys random m = onward (with_timers (record { delay = m.timers.delay; tone = reg m x }) m)

-- ---- call and return

abbrev pub called : ℕ → Machine → Machine
called a m = with_pc a (with_stack (set m.stack m.depth (m.pc + 2)) (m.depth + 1) m)

abbrev pub returned : Machine → Machine
returned m = with_pc (get_or m.stack (m.depth - 1) 0) (with_stack (set m.stack (m.depth - 1) 0) (m.depth - 1) m)
