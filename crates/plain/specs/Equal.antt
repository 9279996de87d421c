-- Request Q-11: the two engines are equal. Both are promised by the same rules; the first keeps a history beside them, and the history plays no
-- part in what a run accepts.
use Rattle.std.specs.Prelude.{◌≡◌, true, List, ℕ}
use Rattle.rules.specs.declared.Machine.{Machine}
use Rattle.rules.specs.declared.Trail.{Trail}
use Rattle.rules.specs.Refusal.{Outcome}
use Rattle.rules.specs.World.{World, world, board_of, buffers_fit, soundly}
use Rattle.rules.specs.Run.{Ran, run, run_refusal}
use Rattle.rules.specs.Rows.{bytes_of}
use Rattle.rules.specs.Typed.{TypedBoard}
use Rattle.rules.specs.Promise.{GivesRun}
use Rattle.spots.specs.Spots.{spots_of}
use Rattle.plain.specs.Gone.{Gone, gone_from}
use Rattle.plain.specs.Plain.{PlainRan, plain_run, GivesPlain}

-- the same run, beside a history and without one
pub record Beside (r : Ran) (g : Gone) : Type 0 where
  pub accepted : r.accepted ≡ g.accepted
  pub refusal : r.answer.refusal ≡ g.refusal
  pub board : board_of r.answer.world ≡ g.board

-- state, memory, refusal and accepted count are equal, and the spots are the picture's
pub record Equal (r : Ran) (p : PlainRan) : Type 0 where
  pub accepted : r.accepted ≡ p.accepted
  pub refusal : r.answer.refusal ≡ p.refusal
  pub machine : r.answer.world.machine ≡ p.machine
  pub memory : r.answer.world.memory ≡ p.memory
  pub spots : p.spots ≡ spots_of r.answer.world.picture

-- the same of what two calls hand back, the one rows and the other spots
pub record EqualHanded (n n' : ℕ) (o o' : Outcome) (m m' : Machine) (mem mem' rows ss : List ℕ) : Type 0 where
  pub accepted : n ≡ n'
  pub outcome : o ≡ o'
  pub machine : m ≡ m'
  pub memory : mem ≡ mem'
  pub spots : ss ≡ spots_of (bytes_of rows)

-- right-sized buffers, a sound state, and history numbers in range
pub record Given (w : World) : Type 0 where
  pub typed : TypedBoard (board_of w)
  pub fits : buffers_fit w ≡ true
  pub sound : soundly w ≡ true

-- ---- THE CLAIMS, proved in proofs/Beside.antt and proofs/Equal.antt

-- the history plays no part: a run that is admitted gives what the boards alone give, whatever history and numbers stand beside them
abbrev pub AnyHistory : Type 0
AnyHistory =
    (ticks keys randoms : List ℕ) (w : World) → TypedBoard (board_of w) → run_refusal ticks keys randoms w ≡ 0
    → Beside (run ticks keys randoms w) (gone_from 0 ticks keys randoms (board_of w))

-- THE EQUALITY, for both editions and any lists, also those that are refused: the same state and memory, and the same picture in each one's form.
-- The request asks it of a true lit-spot number; it holds of any that a sound state has.
abbrev pub RunsEqual : Type 0
RunsEqual =
    (ticks keys randoms : List ℕ) (w : World) → Given w
    → Equal (run ticks keys randoms w) (plain_run ticks keys randoms w.machine w.memory (spots_of w.picture))

-- so the two calls hand back the same, beside any history
abbrev pub EnginesEqual : Type 0
EnginesEqual =
    (ticks keys randoms : List ℕ) (m : Machine) (t : Trail) (memory rows history : List ℕ) → Given (world m t memory (bytes_of rows) history)
    → (n n' : ℕ) (o o' : Outcome) (m₁ m₂ : Machine) (t₁ : Trail) (mem₁ mem₂ rows₁ his₁ spots₂ : List ℕ)
    → GivesRun (run ticks keys randoms (world m t memory (bytes_of rows) history)) n o m₁ t₁ mem₁ (bytes_of rows₁) his₁
    → GivesPlain (plain_run ticks keys randoms m memory (spots_of (bytes_of rows))) n' o' m₂ mem₂ spots₂
    → EqualHanded n n' o o' m₁ m₂ mem₁ mem₂ rows₁ spots₂

-- and the promise is tight: any two outcomes that it allows are equal
pub record Handed : Type 0 where
  pub accepted : ℕ
  pub outcome : Outcome
  pub machine : Machine
  pub memory : List ℕ
  pub spots : List ℕ

abbrev pub PlainOnlyOne : Type 0
PlainOnlyOne =
    (p : PlainRan) (a b : Handed) → GivesPlain p a.accepted a.outcome a.machine a.memory a.spots
    → GivesPlain p b.accepted b.outcome b.machine b.memory b.spots → a ≡ b
