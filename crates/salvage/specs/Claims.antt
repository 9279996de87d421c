-- What is claimed of a salvage: what an accepted one did, and that a second one changes nothing.
use Rattle.std.specs.Prelude.{◌≡◌, List, ℕ, ◌+◌, ◌*◌, ◌≤◌, ◌<◌, length, get_or, drop}
use Rattle.rules.specs.declared.Machine.{Machine}
use Rattle.rules.specs.declared.Trail.{Trail}
use Rattle.rules.specs.World.{places}
use Rattle.salvage_row.specs.Row.{Longest}
use Rattle.salvage_places.specs.Cleared.{OnlyOthers}
use Rattle.salvage_places.specs.Listed.{Tells}
use Rattle.salvage.specs.Salvage.{Salvage, salvage}

-- ---- what an accepted call did

-- the row is the longest, next stays, ahead is 0; the other places, and they alone, are cleared, each place being kept or cleared; and the list
-- tells of each of them and is as long as it was
pub record Salvages (m : Machine) (t : Trail) (history list : List ℕ) (s : Salvage) : Type 0 where
  pub row : Longest m.end history t.kept t.next m.depth s.kept
  pub trail : s.trail ≡ record { next = t.next; kept = s.kept; ahead = 0 }
  pub others : OnlyOthers t.next s.kept history s.history
  pub each : s.kept + s.cleared ≡ places history
  pub tells : Tells (places history) t s.kept s.cleared list s.list
  pub size : length s.list ≡ length list

-- ---- a second call

-- it reports the same two numbers and the same places, now all as free, and changes neither a byte of the history nor its numbers
pub record Again (s s' : Salvage) (list' : List ℕ) : Type 0 where
  pub refusal : s'.refusal ≡ 0
  pub kept : s'.kept ≡ s.kept
  pub cleared : s'.cleared ≡ s.cleared
  pub trail : s'.trail ≡ s.trail
  pub history : s'.history ≡ s.history
  pub place : (i : ℕ) → i < s.cleared → get_or s'.list (2 * i) 0 ≡ get_or s.list (2 * i) 0
  pub free : (i : ℕ) → i < s.cleared → get_or s'.list (2 * i + 1) 0 ≡ 2
  pub rest : drop (2 * s.cleared) s'.list ≡ drop (2 * s.cleared) list'

-- ---- THE CLAIMS, proved in proofs/After.antt and proofs/Again.antt

abbrev pub SalvageDone : Type 0
SalvageDone =
    (m : Machine) (t : Trail) (history list : List ℕ)
    → let s = salvage m t history list in s.refusal ≡ 0 → Salvages m t history list s

-- a second salvage, on what the first gave and with any list that is long enough, is Again
abbrev pub SalvageAgain : Type 0
SalvageAgain =
    (m : Machine) (t : Trail) (history list list' : List ℕ) → let s = salvage m t history list in s.refusal ≡ 0
    → 2 * places history ≤ length list' → Again s (salvage m s.trail s.history list') list'
