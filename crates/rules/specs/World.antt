-- What is lent and handed in, and what every call tests of it first.
use Rattle.std.specs.Prelude.{Bool, ◌&&◌, List, ℕ, ◌+◌, ◌/◌, length, eqb, ltb, leb}
use Rattle.rules.specs.declared.Machine.{Machine}
use Rattle.rules.specs.declared.Trail.{Trail}
use Rattle.rules.specs.Number.{pick}
use Rattle.rules.specs.State.{memory_size, picture_size, sound}
use Rattle.rules.specs.Record.{place_size}
use Rattle.rules.specs.Step.{Board}

-- all that a call reads and changes
pub record World : Type 0 where
  pub machine : Machine
  pub trail : Trail
  pub memory : List ℕ
  pub picture : List ℕ
  pub history : List ℕ

abbrev pub world : Machine → Trail → List ℕ → List ℕ → List ℕ → World
world m t memory picture history = record { machine = m; trail = t; memory = memory; picture = picture; history = history }

-- the same world with another number ahead
abbrev pub with_ahead : ℕ → World → World
with_ahead n w =
    world w.machine (record { next = w.trail.next; kept = w.trail.kept; ahead = n }) w.memory w.picture w.history

-- what the step-back theorem keeps a list of
abbrev pub board_of : World → Board
board_of w = record { machine = w.machine; memory = w.memory; picture = w.picture }

-- R: how many places a history has
abbrev pub places : List ℕ → ℕ
places history = length history / place_size

-- ---- what is tested first

abbrev pub history_fits : List ℕ → Bool
history_fits history = leb place_size (length history) && leb (length history) 65536

abbrev pub sizes_fit : List ℕ → List ℕ → List ℕ → Bool
sizes_fit memory picture history = eqb (length memory) memory_size && eqb (length picture) picture_size && history_fits history

abbrev pub buffers_fit : World → Bool
buffers_fit w = sizes_fit w.memory w.picture w.history

-- next is below R, and kept plus ahead, and so kept, at most R
abbrev pub trail_fits : Trail → List ℕ → Bool
trail_fits t history = ltb t.next (places history) && leb (t.kept + t.ahead) (places history)

abbrev pub soundly : World → Bool
soundly w = sound w.machine && trail_fits w.trail w.history

-- ---- what a call answers: its refusal number, 0 for none, and the world handed back

pub record Answer : Type 0 where
  pub refusal : ℕ
  pub world : World

-- the new world where nothing is refused, and else the world as it came
abbrev pub answered : ℕ → World → World → Answer
answered refusal new w = pick (eqb refusal 0) (record { refusal = 0; world = new }) (record { refusal = refusal; world = w })
