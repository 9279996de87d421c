-- Boards in range and sound: what every lemma on boards assumes and shows again. `Start` and `soundly` give it (Sound).
use mathlib.Core.Path.{◌≡◌}
use mathlib.Core.Bool.{true}
use mathlib.Core.List.{List}
use Prim.Native.Nat.{ℕ, ◌-◌, ◌≤◌, ◌<◌}
use lib.ListN.{drop, length, replicate}
use Rattle.rules.specs.declared.Machine.{Machine}
use Rattle.rules.specs.declared.Timers.{Timers}
use Rattle.rules.specs.State.{memory_size, picture_size, spot_count, stack_size, start_address, held_sound}
use Rattle.rules.specs.Step.{Board}
use Rattle.rules.specs.Typed.{Below}

pub record Bytes (n : ℕ) (l : List ℕ) : Type 0 where
  pub size : length l ≡ n
  pub below : Below 256 l

pub record GoodCalls (stack : List ℕ) (depth : ℕ) : Type 0 where
  pub size : length stack ≡ stack_size
  pub below : Below 65536 stack
  pub most : depth ≤ stack_size
  pub unused : drop depth stack ≡ replicate (stack_size - depth) 0

pub record GoodTimers (t : Timers) : Type 0 where
  pub delay : t.delay < 256
  pub tone : t.tone < 256

pub record GoodEnd (end : ℕ) : Type 0 where
  pub least : start_address ≤ end
  pub most : end ≤ memory_size

pub record GoodMachine (m : Machine) : Type 0 where
  pub v : Bytes 16 m.v
  pub i : m.i < 65536
  pub pc : m.pc < 65536
  pub calls : GoodCalls m.stack m.depth
  pub timers : GoodTimers m.timers
  pub wait : held_sound m.wait ≡ true
  pub lit : m.lit ≤ spot_count
  pub end : GoodEnd m.end

pub record GoodBoard (b : Board) : Type 0 where
  pub machine : GoodMachine b.machine
  pub memory : Bytes memory_size b.memory
  pub picture : Bytes picture_size b.picture
