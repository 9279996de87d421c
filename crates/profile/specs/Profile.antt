-- Request Q-14: what stands in memory at and above the end is 0 after an accepted load, and no call that takes a state writes or reads it. That the
-- end is kept is claimed with the edition (Editions).
use Rattle.std.specs.Prelude.{◌≡◌, List, ◌++◌, ℕ, ◌-◌, take, drop, length, replicate}
use Rattle.rules.specs.declared.Edition.{Edition}
use Rattle.rules.specs.State.{memory_size}
use Rattle.rules.specs.World.{World, Answer, world}
use Rattle.rules.specs.Load.{end_of, load}
use Rattle.rules.specs.Run.{run, EachCall}
use Rattle.rules.specs.Dark.{step_dark, run_dark}
use Rattle.rules.specs.Copied.{run_copied}

-- what stands in memory at and above an end
abbrev pub above : ℕ → World → List ℕ
above end w = drop end w.memory

-- the world with other bytes there, and an answer with other bytes there
abbrev pub with_above : ℕ → List ℕ → World → World
with_above end bytes w = world w.machine w.trail (take end w.memory ++ bytes) w.picture w.history

abbrev pub answer_above : ℕ → List ℕ → Answer → Answer
answer_above end bytes a = record { refusal = a.refusal; world = with_above end bytes a.world }

-- sixteen registers, as the type of a state has them
abbrev pub Sixteen : World → Type 0
Sixteen w = length w.machine.v ≡ 16

-- a call leaves what stands there
abbrev pub NotWritten : (World → Answer) → Type 0
NotWritten call = (w : World) → Sixteen w → let end = w.machine.end in above end (call w).world ≡ above end w

-- two worlds that differ only there get one answer but for those bytes: the one that the first gets, with the other bytes in it
abbrev pub NotRead : (World → Answer) → Type 0
NotRead call =
    (w : World) → Sixteen w → let end = w.machine.end in
    (bytes : List ℕ) → length bytes ≡ length (above end w) → call (with_above end bytes w) ≡ answer_above end bytes (call w)

-- a number that a call answers is the same, whatever stands there
abbrev pub NumberNotRead : (World → ℕ) → Type 0
NumberNotRead number =
    (w : World) → Sixteen w → let end = w.machine.end in
    (bytes : List ℕ) → length bytes ≡ length (above end w) → number (with_above end bytes w) ≡ number w

-- ---- THE CLAIMS, proved in proofs/Profile.antt and proofs/Numbers.antt

-- whatever a load answers, it hands back its end where that is in use, and else 4,096
abbrev pub LoadEnds : Type 0
LoadEnds =
    (edition : Edition) (end : ℕ) (program memory picture history : List ℕ)
    → (load edition end program memory picture history).world.machine.end ≡ end_of end

-- after an accepted load 0 stands there
abbrev pub LoadClears : Type 0
LoadClears =
    (edition : Edition) (end : ℕ) (program memory picture history : List ℕ)
    → let a = load edition end program memory picture history in a.refusal ≡ 0
    → (a.world.machine.end ≡ end) × (above end a.world ≡ replicate (memory_size - end) 0)

-- a step, a tick, a step back, a step forward, a run and a play do not write there, and do not read there
abbrev pub AboveKept : Type 0
AboveKept = EachCall NotWritten

abbrev pub AboveUnread : Type 0
AboveUnread = EachCall NotRead

-- nor do the numbers that a step and a run answer besides
pub record NumbersUnread : Type 0 where
  pub dark : NumberNotRead step_dark
  pub accepted : (ticks keys randoms : List ℕ) → NumberNotRead (λ w. (run ticks keys randoms w).accepted)
  pub run_dark : (ticks keys randoms : List ℕ) → NumberNotRead (run_dark ticks keys randoms)
  pub run_copied : (ticks keys randoms : List ℕ) → NumberNotRead (run_copied ticks keys randoms)
