-- The call: a salvage of a worn history.
use Rattle.std.specs.Prelude.{Bool, ◌&&◌, List, ℕ, ◌*◌, length, eqb, leb}
use Rattle.rules.specs.declared.Machine.{Machine}
use Rattle.rules.specs.declared.Trail.{Trail}
use Rattle.rules.specs.declared.Refusal.TheVariants.{BufferLength, Unsound}
use Rattle.rules.specs.Number.{pick, unless}
use Rattle.rules.specs.Refusal.{number_of}
use Rattle.rules.specs.State.{sound}
use Rattle.rules.specs.World.{places, history_fits, trail_fits}
use Rattle.salvage_row.specs.Row.{row}
use Rattle.salvage_places.specs.Places.{others}
use Rattle.salvage_places.specs.Cleared.{cleared}
use Rattle.salvage_places.specs.Listed.{entries, laid}

-- the refusal, 0 for none, the two numbers reported, and the numbers, the history and the list handed back; the state stays with the caller
pub record Salvage : Type 0 where
  pub refusal : ℕ
  pub kept : ℕ
  pub cleared : ℕ
  pub trail : Trail
  pub history : List ℕ
  pub list : List ℕ

-- two numbers for each of the R places
abbrev pub list_fits : List ℕ → List ℕ → Bool
list_fits history list = leb (2 * places history) (length list)

-- 9, then 10
unfoldable pub salvage_refusal : Machine → Trail → List ℕ → List ℕ → ℕ
salvage_refusal m t history list =
    unless (history_fits history && list_fits history list) (number_of BufferLength)
    (unless (sound m && trail_fits t history) (number_of Unsound)
    0)

-- the longest row of sound records among the kept ones, beside the state's end and the present depth
abbrev pub row_of : Machine → Trail → List ℕ → ℕ
row_of m t history = row m.end history t.kept t.next m.depth

-- the places that are not in it
abbrev pub others_of : Machine → Trail → List ℕ → List ℕ
others_of m t history = others (places history) t.next (row_of m t history)

-- what an accepted call gives: kept is the length of the row, ahead 0, and next stays
abbrev pub salvaged : Machine → Trail → List ℕ → List ℕ → Salvage
salvaged m t history list =
    let ps = others_of m t history in
    record {
      refusal = 0;
      kept = row_of m t history;
      cleared = length ps;
      trail = record { next = t.next; kept = row_of m t history; ahead = 0 };
      history = cleared ps history;
      list = laid (entries (places history) t ps) list;
    }

-- a refused call reports 0 and 0 and changes nothing
abbrev pub refused : ℕ → Trail → List ℕ → List ℕ → Salvage
refused refusal t history list = record { refusal = refusal; kept = 0; cleared = 0; trail = t; history = history; list = list }

unfoldable pub salvage : Machine → Trail → List ℕ → List ℕ → Salvage
salvage m t history list =
    let refusal = salvage_refusal m t history list in
    pick (eqb refusal 0) (salvaged m t history list) (refused refusal t history list)
