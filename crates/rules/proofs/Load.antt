-- The proof that an accepted load starts as Past wants it.
use mathlib.Core.Path.{◌≡◌, refl}
use mathlib.Core.Bool.{Bool, true, false, ◌&&◌, and-eq-true_iff}
use mathlib.Core.List.{List, [], ◌∷◌}
use Prim.Native.Nat.{ℕ, ◌-◌, ◌≤◌}
use native.Mathlib.Omega.{arith}
use lib.ListN.{length, length-append, length-replicate}
use lib.Dec.{ltb, leb}
use borrow.Author.Tests.{ltb-true, leb-true, eq-eqb, le-leb}
use Rattle.rules.specs.declared.Edition.{Edition}
use Rattle.rules.specs.Number.{pick}
use Rattle.rules.specs.State.{fresh, end_sound}
use Rattle.rules.specs.World.{Answer, board_of, sizes_fit}
use Rattle.rules.specs.Load.{digits, end_of, fresh_world, loaded, loaded_memory, load, load_refusal}
use Rattle.rules.specs.Typed.{Below, none, more, TypedMachine, TypedBoard}
use Rattle.rules.specs.Past.{Start, LoadStarts}
use Rattle.rules.proofs.Choices.{by_test, and_both, passed}
use Rattle.rules.proofs.Parts.{zeroes, below_append, below_zeros}
use Rattle.rules.proofs.Sound.{end_good}
use Rattle.rules.proofs.Ready.{fits_passed}

all_below : ℕ → List ℕ → Bool
all_below n [] = true
all_below n (x ∷ xs) = ltb x n && all_below n xs

below_all : (n : ℕ) (l : List ℕ) → all_below n l ≡ true → Below n l
unfolding all_below
below_all n [] e = none
below_all n (x ∷ xs) e = let s = (and-eq-true_iff (ltb x n) (all_below n xs)).0 e in more (ltb-true x n s.0) (below_all n xs s.1)

digits_below : Below 256 digits
unfolding all_below
digits_below = below_all 256 digits refl

-- the end that a load hands back is in use
pub end_in_use : (end : ℕ) → end_sound (end_of end) ≡ true
end_in_use end = go (end_sound end) refl
  where
    go : (t : Bool) → end_sound end ≡ t → end_sound (pick t end 4096) ≡ true
    go true e = e
    go false e = refl

pub fresh_typed : (edition : Edition) (end : ℕ) → TypedMachine (fresh edition (end_of end))
fresh_typed edition end =
    record {
      vs = refl;
      v = below_zeros 16 (omega arith);
      i = omega arith;
      pc = omega arith;
      entries = refl;
      stack = below_zeros 12 (omega arith);
      delay = omega arith;
      tone = omega arith;
      lit = omega arith;
      end = omega (arith, end_good (end_of end) (end_in_use end));
    }

-- digits, zeros, the program and zeros fill the memory
pub loaded_length : (program : List ℕ) → length program ≤ 3584 → length (loaded_memory program) ≡ 4096
unfolding loaded_memory
loaded_length program fits = simp (length-append, length-replicate) (omega arith)

loaded_below : (program : List ℕ) → Below 256 program → Below 256 (loaded_memory program)
unfolding loaded_memory
loaded_below program h =
    below_append (below_append (below_append digits_below (below_zeros 432 (omega arith))) h) (below_zeros (3584 - length program) (omega arith))

loaded_starts : (edition : Edition) (end : ℕ) (program history : List ℕ) → Below 256 program → length program ≤ 3584 → 292 ≤ length history
    → length history ≤ 65536 → let w = loaded edition end program history in TypedBoard (board_of w) × Start w
loaded_starts edition end program history h fits least most =
    let long : length (zeroes (length history)) ≡ length history = length-replicate {A = ℕ} (length history) 0 in (
      record { machine = fresh_typed edition end; memory = loaded_below program h; picture = below_zeros 256 (omega arith) },
      record {
        fits = and_both (and_both (eq-eqb _ _ (loaded_length program fits)) (eq-eqb _ _ (length-replicate {A = ℕ} 256 0)))
            (rw long (and_both (le-leb _ _ least) (le-leb _ _ most)));
        sound = and_both refl (end_in_use end);
        next = rw long (omega arith);
        kept = refl;
        ahead = refl;
      },
    )

-- what an accepted load passed
pub load_passed : (end : ℕ) (program memory picture history : List ℕ) → load_refusal end program memory picture history ≡ 0
    → (sizes_fit memory picture history ≡ true) × (end_sound end ≡ true) × (length program ≤ end - 512)
unfolding load_refusal
load_passed end program memory picture history e =
    let first = passed (sizes_fit memory picture history) 8 _ e in
    let second = passed (end_sound end) 9 _ first.1 in
    let third = passed (leb 1 (length program) && leb (length program) (end - 512)) 7 0 second.1 in
    let both = (and-eq-true_iff (leb 1 (length program)) (leb (length program) (end - 512))).0 third.0 in
    (first.0, second.0, leb-true (length program) (end - 512) both.1)

pub load_starts : LoadStarts
unfolding load
load_starts edition end program memory picture history h =
    by_test (λ (a : Answer). a.refusal ≡ 0 → TypedBoard (board_of a.world) × Start a.world) (load_refusal end program memory picture history) 0 (λ e _. start e)
    (λ ne e. absurd (ne e))
  where
    start : load_refusal end program memory picture history ≡ 0 → let w = loaded edition end program history in TypedBoard (board_of w) × Start w
    start e =
        let (sizes, in_use, short) = load_passed end program memory picture history e in
        let room = fits_passed (fresh_world edition end memory picture history) sizes in
        loaded_starts edition end program history h (omega (arith, end_good end in_use)) room.least room.most
