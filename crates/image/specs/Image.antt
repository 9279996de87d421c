-- The image of a state: 64 bytes, numbers with their high byte first.
use Rattle.std.specs.Prelude.{◌≡◌, Bool, true, ◌&&◌, List, [], ◌∷◌, ◌++◌, ℕ, ◌+◌, ◌<◌, get_or, length, drop, replicate, eqb, leb}
use Rattle.rules.specs.declared.Machine.{Machine}
use Rattle.rules.specs.declared.Trail.{Trail}
use Rattle.rules.specs.Number.{pick, word}
use Rattle.rules.specs.State.{zeros, sound}
use Rattle.rules.specs.Memory.{part}
pub use Rattle.rules.specs.Byte.{edition_byte, edition_of, wait_of}
use Rattle.rules.specs.Record.{byte_at, word_at, held_byte}
use Rattle.rules.specs.Typed.{Below, TypedMachine}

abbrev pub image_size : ℕ
image_size = 64

-- ---- from a state to its image

-- 16: I, PC, depth, delay, tone, held key
abbrev pub middle : Machine → List ℕ
middle m = word m.i ++ word m.pc ++ (m.depth ∷ m.timers.delay ∷ m.timers.tone ∷ held_byte m.wait ∷ [])

-- 24: the twelve stack entries, six and six
abbrev pub six : ℕ → ℕ → ℕ → ℕ → ℕ → ℕ → List ℕ
six a b c d e f = word a ++ word b ++ word c ++ word d ++ word e ++ word f

abbrev pub six_from : ℕ → List ℕ → List ℕ
six_from k s = six (get_or s k 0) (get_or s (k + 1) 0) (get_or s (k + 2) 0) (get_or s (k + 3) 0) (get_or s (k + 4) 0) (get_or s (k + 5) 0)

-- 48: next and kept
abbrev pub numbers : Trail → List ℕ
numbers t = word t.next ++ word t.kept

-- 52: the edition, 0 for the first and 1 for the second; 54: ahead; 56: the number of lit spots; 58: the end of memory; and zeros, kept for
-- what is to come
abbrev pub tail : Machine → Trail → List ℕ
tail m t = (edition_byte m.edition ∷ 0 ∷ []) ++ word t.ahead ++ word m.lit ++ word m.end ++ replicate 4 0

unfoldable pub image_of : Machine → Trail → List ℕ
image_of m t = m.v ++ middle m ++ six_from 0 m.stack ++ six_from 6 m.stack ++ numbers t ++ tail m t

-- ---- from an image to the state that it stands for

abbrev pub stack_of : List ℕ → List ℕ
stack_of b =
    word_at b 24 ∷ word_at b 26 ∷ word_at b 28 ∷ word_at b 30 ∷ word_at b 32 ∷ word_at b 34
    ∷ word_at b 36 ∷ word_at b 38 ∷ word_at b 40 ∷ word_at b 42 ∷ word_at b 44 ∷ word_at b 46 ∷ []

-- an image is in order if its edition is one of the two and the bytes that are kept are 0
abbrev pub in_order : List ℕ → Bool
in_order b = leb (byte_at b 52) 1 && eqb (byte_at b 53) 0 && zeros (drop 60 b)

-- one that is not stands for an unsound state: its depth is 255
abbrev pub depth_of : List ℕ → ℕ
depth_of b = pick (in_order b) (byte_at b 20) 255

unfoldable pub machine_of : List ℕ → Machine
machine_of b =
    record {
      v = part b 0 16;
      i = word_at b 16;
      pc = word_at b 18;
      stack = stack_of b;
      depth = depth_of b;
      timers = record { delay = byte_at b 21; tone = byte_at b 22 };
      wait = wait_of (byte_at b 23);
      edition = edition_of (byte_at b 52);
      lit = word_at b 56;
      end = word_at b 58;
    }

unfoldable pub trail_of : List ℕ → Trail
trail_of b = record { next = word_at b 48; kept = word_at b 50; ahead = word_at b 54 }

-- ---- THE CLAIMS, proved in proofs/ReadsBack.antt

-- an image that is read and written again is the same bytes
abbrev pub ReadsBack : Type 0
ReadsBack =
    (b : List ℕ) → length b ≡ image_size → Below 256 b → in_order b ≡ true → image_of (machine_of b) (trail_of b) ≡ b

-- a state that its image holds whole: its numbers are ones that their types hold, it is sound, and next, kept and ahead are numbers of two bytes
pub record Storable (m : Machine) (t : Trail) : Type 0 where
  pub typed : TypedMachine m
  pub sound : sound m ≡ true
  pub next : t.next < 65536
  pub kept : t.kept < 65536
  pub ahead : t.ahead < 65536

-- such a state that is written and read again is the same state
abbrev pub ComesBack : Type 0
ComesBack = (m : Machine) (t : Trail) → Storable m t → (machine_of (image_of m t) ≡ m) × (trail_of (image_of m t) ≡ t)
