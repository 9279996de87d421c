-- What an accepted salvage did, by the laws of the row and of the places; and what a second one finds: the same places and the same row.
use mathlib.Core.Path.{◌≡◌, refl, ap, ◌∙◌}
use mathlib.Core.Bool.{true}
use mathlib.Core.List.{List}
use Prim.Native.Nat.{ℕ, ◌+◌, ◌/◌, ◌≤◌, ◌<◌}
use native.Mathlib.Omega.{arith}
use lib.ListN.{length}
use borrow.Author.Tests.{lt-ltb}
use Rattle.rules.specs.declared.Machine.{Machine}
use Rattle.rules.specs.declared.Trail.{Trail}
use Rattle.rules.specs.Number.{pick}
use Rattle.rules.specs.World.{places}
use Rattle.salvage_row.specs.Row.{record_at, row, place_back, record_back}
use Rattle.salvage_row.proofs.Rows.{row_most, row_longest, row_stays}
use Rattle.salvage_places.specs.Places.{in_row, others}
use Rattle.salvage_places.specs.Cleared.{empty_place, cleared, OnlyOthers}
use Rattle.salvage_places.specs.Listed.{entries, laid}
use Rattle.salvage_places.proofs.Turn.{back_below, places_back}
use Rattle.salvage_places.proofs.Others.{each_once}
use Rattle.salvage_places.proofs.Clearing.{clears_others, cleared_idle}
use Rattle.salvage_places.proofs.Listing.{listed_length, tells_others}
use Rattle.salvage.specs.Salvage.{row_of}
use Rattle.salvage.specs.Claims.{Salvages, SalvageDone}
use Rattle.salvage.proofs.Accepted.{Admitted, of_accepted}

module _ (m : Machine) (t : Trail) (history list : List ℕ) (a : Admitted m t history list) where
  abbrev r : ℕ
  r = places history

  abbrev n : ℕ
  n = t.next

  abbrev k : ℕ
  k = row_of m t history

  abbrev after : List ℕ
  after = cleared (others r n k) history

  pub row_few : k ≤ r
  row_few = omega (arith, row_most m.end history t.kept n m.depth, a.limit)

  pub only : OnlyOthers n k history after
  only = clears_others history n k

  pub as_many : places after ≡ r
  as_many = ap (λ (x : ℕ). x / 292) only.size

  once : k + length (others r n k) ≡ r
  once = each_once r n k a.next row_few

  listed : length (laid (entries r t (others r n k)) list) ≡ length list
  listed = listed_length r t (others r n k) list (omega (arith, a.room, once))

  -- the records of the row stand where they stood
  same_record : (j : ℕ) → j < k → record_back after n j ≡ record_back history n j
  same_record j h =
      let there : in_row r n k (place_back r n j) ≡ true =
      rw (places_back r n j a.next (omega (arith, row_few))) (lt-ltb j k h) in
      rw (as_many, only.place (place_back r n j) (back_below r n j a.next), there)

  -- so the row is found again
  pub row_again : row m.end after k n m.depth ≡ k
  row_again = row_stays m.end history after t.kept n m.depth same_record

  -- and clearing the other places again changes nothing
  pub clear_again : cleared (others r n k) after ≡ after
  clear_again = cleared_idle r n k after (λ q h out. only.place q h ∙ ap (λ t. pick t (record_at history q) empty_place) out)

pub salvage_done : SalvageDone
salvage_done m t history list =
    of_accepted m t history list (Salvages m t history list)
    (λ a.
    record {
      row = row_longest m.end history t.kept t.next m.depth;
      trail = refl;
      others = only m t history list a;
      each = once m t history list a;
      tells = tells_others (places history) t (row_of m t history) list;
      size = listed m t history list a;
    })
