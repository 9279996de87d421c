-- What is claimed of each call that takes a state, said of the plain engine's run too: a true number of lit spots stays true (Q-8), the edition
-- and the end stay (Q-5, Q-14), and memory at and above the end is neither written nor read (Q-14).
use Rattle.std.specs.Prelude.{◌≡◌, List, ◌++◌, ℕ, take, drop, length}
use Rattle.rules.specs.declared.Machine.{Machine}
use Rattle.rules.specs.State.{chosen}
use Rattle.rules.specs.Picture.{lit_spots}
use Rattle.rules.specs.Typed.{Below, TypedMachine}
use Rattle.spots.specs.Spots.{picture_of}
use Rattle.plain.specs.Plain.{PlainRan, plain_run}

-- the number is the count of the picture that the spots are
abbrev pub TrueSpots : Machine → List ℕ → Type 0
TrueSpots m spots = m.lit ≡ lit_spots (picture_of spots)

-- what a run that hands back p keeps of what it was given
pub record Keeps (m : Machine) (memory spots : List ℕ) (p : PlainRan) : Type 0 where
  pub lit : TrueSpots m spots → TrueSpots p.machine p.spots
  pub chosen : chosen p.machine ≡ chosen m
  pub above : drop m.end p.memory ≡ drop m.end memory

-- memory with other bytes from an end on, and what a run hands back with other bytes there
abbrev pub memory_above : ℕ → List ℕ → List ℕ → List ℕ
memory_above end bytes memory = take end memory ++ bytes

abbrev pub plain_above : ℕ → List ℕ → PlainRan → PlainRan
plain_above end bytes p =
    record { accepted = p.accepted; refusal = p.refusal; machine = p.machine; memory = memory_above end bytes p.memory; spots = p.spots }

-- ---- THE CLAIMS, proved in proofs/Kept.antt, of any state and memory that their types hold, and any spots

abbrev pub PlainKept : Type 0
PlainKept =
    (ticks keys randoms : List ℕ) (m : Machine) (memory spots : List ℕ) → TypedMachine m → Below 256 memory
    → Keeps m memory spots (plain_run ticks keys randoms m memory spots)

-- two memories that differ only there get one answer but for those bytes
abbrev pub PlainUnread : Type 0
PlainUnread =
    (ticks keys randoms : List ℕ) (m : Machine) (memory spots : List ℕ) → TypedMachine m → Below 256 memory
    → (bytes : List ℕ) → Below 256 bytes → length bytes ≡ length (drop m.end memory)
    → plain_run ticks keys randoms m (memory_above m.end bytes memory) spots
    ≡ plain_above m.end bytes (plain_run ticks keys randoms m memory spots)
