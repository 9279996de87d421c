-- Every number is one that its type holds: bytes are below 256, addresses below 65,536, and the arrays have their sizes.
use Rattle.std.specs.Prelude.{◌≡◌, List, [], ◌∷◌, ℕ, ◌<◌, length}
use Rattle.rules.specs.declared.Action.{Action}
use Rattle.rules.specs.declared.Action.TheVariants.{Step, Tick}
use Rattle.rules.specs.declared.Machine.{Machine}
use Rattle.rules.specs.State.{stack_size}
use Rattle.rules.specs.Step.{Board}
use Rattle.rules.specs.Run.{Move, a_step, a_tick, a_back, a_forward}

-- each element is below n
pub data Below (n : ℕ) : List ℕ → Type 0 where
  none : Below n []
  more : {x : ℕ} {l : List ℕ} → x < n → Below n l → Below n (x ∷ l)

pub record TypedMachine (m : Machine) : Type 0 where
  pub vs : length m.v ≡ 16
  pub v : Below 256 m.v
  pub i : m.i < 65536
  pub pc : m.pc < 65536
  pub entries : length m.stack ≡ stack_size
  pub stack : Below 65536 m.stack
  pub delay : m.timers.delay < 256
  pub tone : m.timers.tone < 256
  pub lit : m.lit < 65536
  pub end : m.end < 65536

pub record TypedBoard (b : Board) : Type 0 where
  pub machine : TypedMachine b.machine
  pub memory : Below 256 b.memory
  pub picture : Below 256 b.picture

-- a step's keys are 16 bits, and its random byte is a byte
abbrev pub TypedAction : Action → Type 0
TypedAction (Step keys random) = (keys < 65536) × (random < 256)
TypedAction Tick = Unit {0}

abbrev pub TypedMove : Move → Type 0
TypedMove (a_step keys random) = TypedAction (Step keys random)
TypedMove a_tick = Unit {0}
TypedMove a_back = Unit {0}
TypedMove a_forward = Unit {0}

abbrev pub TypedMoves : List Move → Type 0
TypedMoves [] = Unit {0}
TypedMoves (m ∷ ms) = TypedMove m × TypedMoves ms
