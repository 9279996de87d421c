-- Request Q-11: a run of the plain engine, and its promise. It is told by the picture that the spots are, and the spots that it leaves are those
-- of the picture that the rules lead to.
use Rattle.std.specs.Prelude.{◌≡◌, ◌&&◌, List, ℕ, length, eqb}
use Rattle.rules.specs.declared.Machine.{Machine}
use Rattle.rules.specs.declared.Refusal.TheVariants.{BufferLength, Unsound}
use Rattle.rules.specs.Number.{pick, unless}
use Rattle.rules.specs.Refusal.{Outcome, number, number_of}
use Rattle.rules.specs.State.{memory_size, spot_count, sound}
use Rattle.rules.specs.Run.{lists_fit}
use Rattle.spots.specs.Spots.{spots_of, all_spots}
use Rattle.plain_step.specs.Does.{board_on}
use Rattle.plain.specs.Gone.{Gone, gone_from}

-- what a run answers, and what it hands back
pub record PlainRan : Type 0 where
  pub accepted : ℕ
  pub refusal : ℕ
  pub machine : Machine
  pub memory : List ℕ
  pub spots : List ℕ

-- 9 for memory, spots or lists of a wrong length, then 10 for an unsound state or a spot that is neither 0 nor 1
unfoldable pub plain_refusal : List ℕ → List ℕ → List ℕ → Machine → List ℕ → List ℕ → ℕ
plain_refusal ticks keys randoms m memory spots =
    unless (eqb (length memory) memory_size && eqb (length spots) spot_count && lists_fit ticks keys randoms) (number_of BufferLength)
    (unless (sound m && all_spots spots) (number_of Unsound)
    0)

-- a board handed back in the plain engine's form
abbrev pub in_spots : Gone → PlainRan
in_spots g =
    record { accepted = g.accepted; refusal = g.refusal; machine = g.board.machine; memory = g.board.memory; spots = spots_of g.board.picture }

unfoldable pub plain_run : List ℕ → List ℕ → List ℕ → Machine → List ℕ → List ℕ → PlainRan
plain_run ticks keys randoms m memory spots =
    let refusal = plain_refusal ticks keys randoms m memory spots in
    pick (eqb refusal 0) (in_spots (gone_from 0 ticks keys randoms (board_on m memory spots)))
    (record { accepted = 0; refusal = refusal; machine = m; memory = memory; spots = spots })

-- what the call promises: the outcome, the number, the state and every lent byte
pub record GivesPlain (p : PlainRan) (n : ℕ) (o : Outcome) (m : Machine) (mem spots : List ℕ) : Type 0 where
  pub accepted : n ≡ p.accepted
  pub says : number o ≡ p.refusal
  pub machine : m ≡ p.machine
  pub memory : mem ≡ p.memory
  pub picture : spots ≡ p.spots
