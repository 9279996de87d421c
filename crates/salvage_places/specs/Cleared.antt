-- A history with places cleared to 0.
use Rattle.std.specs.Prelude.{◌≡◌, List, [], ◌∷◌, ℕ, ◌*◌, ◌<◌, length, drop, replicate}
use Rattle.rules.specs.Number.{pick}
use Rattle.rules.specs.Memory.{over}
use Rattle.rules.specs.Record.{place_size}
use Rattle.rules.specs.World.{places}
use Rattle.salvage_row.specs.Row.{record_at}
use Rattle.salvage_places.specs.Places.{in_row, others}

-- a place of zeros
abbrev pub empty_place : List ℕ
empty_place = replicate place_size 0

-- the history with a place cleared to 0
abbrev pub without : List ℕ → ℕ → List ℕ
without history p = over history (place_size * p) empty_place place_size

-- and with each of these places
unfoldable pub cleared : List ℕ → List ℕ → List ℕ
cleared [] history = history
cleared (p ∷ ps) history = cleared ps (without history p)

-- ---- THE CLAIM, proved in proofs/Clearing.antt, of the places that hold none of the k newest records

-- place by place: those of the k newest records stand as they were, every other is 0, and the bytes after the last place stay
pub record OnlyOthers (n k : ℕ) (history after : List ℕ) : Type 0 where
  pub size : length after ≡ length history
  pub place : (p : ℕ) → p < places history → record_at after p ≡ pick (in_row (places history) n k p) (record_at history p) empty_place
  pub rest : drop (place_size * places history) after ≡ drop (place_size * places history) history

abbrev pub ClearsOthers : Type 0
ClearsOthers = (history : List ℕ) (n k : ℕ) → OnlyOthers n k history (cleared (others (places history) n k) history)
