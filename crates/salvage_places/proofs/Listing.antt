-- What stands in the list: at an entry's two numbers the place and as what it counts, and behind the entries what stood there.
use mathlib.Core.Path.{◌≡◌, refl, ap, ◌∙◌}
use mathlib.Core.List.{List, [], ◌∷◌}
use Prim.Native.Nat.{ℕ, zero, suc, ◌+◌, ◌*◌, ◌≤◌, ◌<◌}
use native.Mathlib.Numerals.{add-one}
use native.Mathlib.Omega.{arith}
use lib.ListN.{length, get_or, drop, length-append, length-drop, get_or-append}
use lib.Seq.{drop_at}
use Rattle.rules.specs.declared.Trail.{Trail}
use Rattle.salvage_places.specs.Places.{standing, others}
use Rattle.salvage_places.specs.Listed.{entries, laid, TellsOthers}
use Rattle.salvage_places.proofs.Others.{others_rise}

twice_more : (i : ℕ) → 2 * suc i ≡ suc (suc (2 * i))
twice_more i = omega arith

odd_more : (i : ℕ) → 2 * suc i + 1 ≡ suc (suc (2 * i + 1))
odd_more i = omega arith

module _ (r : ℕ) (t : Trail) where
  entries_place : (ps : List ℕ) (i : ℕ) → i < length ps → get_or (entries r t ps) (2 * i) 0 ≡ get_or ps i 0
  unfolding entries
  entries_place [] i h = absurd (omega arith)
  entries_place (p ∷ ps) zero h = refl
  entries_place (p ∷ ps) (suc i) h = rw twice_more (entries_place ps i (omega arith))

  entries_standing : (ps : List ℕ) (i : ℕ) → i < length ps → get_or (entries r t ps) (2 * i + 1) 0 ≡ standing r t (get_or ps i 0)
  unfolding entries
  entries_standing [] i h = absurd (omega arith)
  entries_standing (p ∷ ps) zero h = refl
  entries_standing (p ∷ ps) (suc i) h = rw odd_more (entries_standing ps i (omega arith))

  entries_length : (ps : List ℕ) → length (entries r t ps) ≡ 2 * length ps
  unfolding entries
  entries_length [] = refl
  entries_length (p ∷ ps) = rw (entries_length ps, twice_more)

  module _ (ps list : List ℕ) where
    pub listed_place : (i : ℕ) → i < length ps → get_or (laid (entries r t ps) list) (2 * i) 0 ≡ get_or ps i 0
    listed_place i h = get_or-append (entries r t ps) _ 0 (2 * i) (omega (arith, entries_length ps)) ∙ entries_place ps i h

    pub listed_standing : (i : ℕ) → i < length ps → get_or (laid (entries r t ps) list) (2 * i + 1) 0 ≡ standing r t (get_or ps i 0)
    listed_standing i h = get_or-append (entries r t ps) _ 0 (2 * i + 1) (omega (arith, entries_length ps)) ∙ entries_standing ps i h

    pub listed_rest : drop (2 * length ps) (laid (entries r t ps) list) ≡ drop (2 * length ps) list
    listed_rest = rw (← entries_length ps) (drop_at (entries r t ps) _ (length (entries r t ps)) refl)

    pub listed_length : 2 * length ps ≤ length list → length (laid (entries r t ps) list) ≡ length list
    listed_length h = simp (length-append, length-drop) (omega (arith, entries_length ps))

pub tells_others : TellsOthers
tells_others r t k list =
    let ps = others r t.next k in
    let rising = others_rise r t.next k r 0 in
    let is = listed_place r t ps list in
    record {
      place = λ i h. omega (arith, is i h, rising.to i h);
      other = λ i h. rw (is i h) (rising.out i h);
      rises = λ i h. omega (arith, is i (omega arith), is (i + 1) h, rising.rise i (omega arith), ap (λ (j : ℕ). get_or ps j 0) (add-one i));
      kind = λ i h. rw (is i h) (listed_standing r t ps list i h);
      rest = listed_rest r t ps list;
    }
