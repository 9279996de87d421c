-- A second salvage finds the same row and the same places, all free, and changes nothing.
use mathlib.Core.Path.{◌≡◌, refl, sym, ◌∙◌, subst, subst₂}
use mathlib.Core.Bool.{false}
use mathlib.Core.List.{List}
use Prim.Native.Nat.{ℕ, ◌*◌, ◌≤◌}
use native.Mathlib.Omega.{arith}
use lib.ListN.{length, get_or}
use borrow.Author.Tests.{le-ltb}
use Rattle.rules.specs.declared.Machine.{Machine}
use Rattle.rules.specs.declared.Trail.{Trail}
use Rattle.rules.specs.World.{places}
use Rattle.salvage_places.specs.Places.{beyond, standing, in_row, others}
use Rattle.salvage_places.specs.Cleared.{cleared}
use Rattle.salvage_places.specs.Listed.{entries, laid}
use Rattle.salvage_places.proofs.Others.{others_rise}
use Rattle.salvage_places.proofs.Listing.{listed_place, listed_standing, listed_rest}
use Rattle.salvage.specs.Salvage.{Salvage, row_of, salvaged, salvage}
use Rattle.salvage.specs.Claims.{Again, SalvageAgain}
use Rattle.salvage.proofs.Accepted.{Admitted, of_accepted, accepted}
use Rattle.salvage.proofs.After as after

-- the numbers afterwards: nothing is ahead
abbrev still : ℕ → ℕ → Trail
still n k = record { next = n; kept = k; ahead = 0 }

-- beside them a place that is not in the row is free
now_free : (r n k p : ℕ) → in_row r n k p ≡ false → standing r (still n k) p ≡ 2
now_free r n k p out = rw (out, le-ltb (beyond r n p) 0 (omega arith))

module _ (m : Machine) (t : Trail) (history list : List ℕ) (a : Admitted m t history list) (list' : List ℕ) where
  abbrev r : ℕ
  r = places history

  abbrev n : ℕ
  n = t.next

  abbrev k : ℕ
  k = row_of m t history

  abbrev left : List ℕ
  left = cleared (others r n k) history

  -- what a salvage gives that finds r places and a row of k
  abbrev found : ℕ → ℕ → Salvage
  found r k =
      record {
        refusal = 0;
        kept = k;
        cleared = length (others r n k);
        trail = still n k;
        history = cleared (others r n k) left;
        list = laid (entries r (still n (row_of m t history)) (others r n k)) list';
      }

  found_again : Again (salvaged m t history list) (found r k) list'
  found_again =
      let ps = others r n k in
      record {
        refusal = refl;
        kept = refl;
        cleared = refl;
        trail = refl;
        history = after.clear_again m t history list a;
        place = λ i h. listed_place r (still n k) ps list' i h ∙ sym (listed_place r t ps list i h);
        free = λ i h. listed_standing r (still n k) ps list' i h ∙ now_free r n k (get_or ps i 0) ((others_rise r n k r 0).out i h);
        rest = listed_rest r (still n k) ps list';
      }

  admitted_again : 2 * r ≤ length list' → Admitted m (still n k) left list'
  admitted_again room =
      let size = (after.only m t history list a).size in
      let many = after.as_many m t history list a in
      record {
        least = rw size a.least;
        most = rw size a.most;
        room = rw many room;
        sound = a.sound;
        next = rw many a.next;
        limit = rw many (omega (arith, after.row_few m t history list a));
      }

  again : 2 * r ≤ length list' → Again (salvaged m t history list) (salvage m (still n k) left list') list'
  again room =
      subst (λ (s : Salvage). Again (salvaged m t history list) s list') (sym (accepted m (still n k) left list' (admitted_again room)))
      (subst₂ (λ (r' k' : ℕ). Again (salvaged m t history list) (found r' k') list') (sym (after.as_many m t history list a))
      (sym (after.row_again m t history list a)) found_again)

pub salvage_again : SalvageAgain
salvage_again m t history list list' =
    of_accepted m t history list
    (λ s. 2 * places history ≤ length list' → Again s (salvage m s.trail s.history list') list')
    (λ a. again m t history list a list')
