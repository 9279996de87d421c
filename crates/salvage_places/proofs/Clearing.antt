-- What one clearing keeps, all of them keep: so the places of the row, the bytes after the last place and the length stand as they were, and a
-- place that is 0 stays 0.
use mathlib.Core.Path.{◌≡◌, refl, sym, ap, ◌∙◌}
use mathlib.Core.Bool.{Bool, true, false, false≢true}
use mathlib.Core.List.{List, ◌∷◌}
use Prim.Native.Nat.{ℕ, zero, suc, ◌+◌, ◌-◌, ◌*◌, ◌≤◌, ◌<◌}
use native.Mathlib.Decide.{ℕ_discrete}
use native.Mathlib.Omega.{arith}
use lib.ListN.{length, drop, length-replicate}
use Rattle.rules.specs.Number.{pick}
use Rattle.rules.specs.Memory.{over}
use Rattle.rules.specs.World.{places}
use Rattle.rules.proofs.Chain.{other_place}
use Rattle.rules.proofs.Choices.{choice, by_bool}
use Rattle.rules.proofs.Parts.{over_length, over_far, part_over_same, put_back}
use Rattle.salvage_row.specs.Row.{record_at}
use Rattle.salvage_places.specs.Places.{in_row, others_from, others}
use Rattle.salvage_places.specs.Cleared.{empty_place, without, cleared, ClearsOthers}

-- ---- one place

pub empty_sized : length empty_place ≡ 292
empty_sized = length-replicate {A = ℕ} 292 0

module _ (r : ℕ) (h : List ℕ) (p : ℕ) (fits : 292 * r ≤ length h) (hp : p < r) where
  pub without_size : length (without h p) ≡ length h
  without_size = over_length h empty_place (292 * p) 292 (omega arith) empty_sized

  without_rest : drop (292 * r) (without h p) ≡ drop (292 * r) h
  without_rest = over_far h empty_place (292 * p) 292 (omega arith) empty_sized (292 * r) (omega arith)

  without_same : record_at (without h p) p ≡ empty_place
  without_same = part_over_same h empty_place (292 * p) 292 (omega arith) empty_sized

  without_other : (q : ℕ) → q < r → (q ≡ p → ⊥) → record_at (without h p) q ≡ record_at h q
  without_other = other_place h empty_place r p empty_sized fits hp

-- a place of zeros stays as it is
without_idle : (h : List ℕ) (p : ℕ) → record_at h p ≡ empty_place → without h p ≡ h
without_idle h p e = ap (λ (l : List ℕ). over h (292 * p) l 292) (sym e) ∙ put_back h h (292 * p) 292 refl refl

-- ---- all places that are not in the row

module _ (r n k : ℕ) where
  pub cleared_keeps : (P : List ℕ → Type 0) → ((h : List ℕ) (p : ℕ) → p < r → in_row r n k p ≡ false → P h → P (without h p))
      → (left p : ℕ) (h : List ℕ) → p + left ≤ r → P h → P (cleared (others_from r n k left p) h)
  unfolding others_from cleared
  cleared_keeps P one zero p h few x = x
  cleared_keeps P one (suc left) p h few x =
      by_bool (λ (ps : List ℕ). P (cleared ps h)) (in_row r n k p) (λ e. cleared_keeps P one left (p + 1) h (omega arith) x)
      (λ e. cleared_keeps P one left (p + 1) (without h p) (omega arith) (one h p (omega arith) e x))

  -- what stands as it was in h₀
  record Stays (h₀ h : List ℕ) : Type 0 where
    size : length h ≡ length h₀
    rest : drop (292 * r) h ≡ drop (292 * r) h₀
    row : (q : ℕ) → q < r → in_row r n k q ≡ true → record_at h q ≡ record_at h₀ q

  stays : (h₀ : List ℕ) → 292 * r ≤ length h₀ → (h : List ℕ) (p : ℕ) → p < r → in_row r n k p ≡ false → Stays h₀ h → Stays h₀ (without h p)
  stays h₀ fits h p hp out s =
      let fit : 292 * r ≤ length h = omega (arith, s.size) in
      record {
        size = without_size r h p fit hp ∙ s.size;
        rest = without_rest r h p fit hp ∙ s.rest;
        row = λ q hq t. without_other r h p fit hp q hq (λ z. false≢true (sym out ∙ ap (in_row r n k) (sym z) ∙ t)) ∙ s.row q hq t;
      }

  -- a place that is 0, in a history that is long enough
  record Zero (q : ℕ) (h : List ℕ) : Type 0 where
    fits : 292 * r ≤ length h
    empty : record_at h q ≡ empty_place

  zero_same : (q : ℕ) → q < r → (h : List ℕ) → 292 * r ≤ length h → Zero q (without h q)
  zero_same q hq h fits = record { fits = omega (arith, without_size r h q fits hq); empty = without_same r h q fits hq }

  zero_stays : (q : ℕ) → q < r → (h : List ℕ) (p : ℕ) → p < r → Zero q h → Zero q (without h p)
  zero_stays q hq h p hp z = go (ℕ_discrete q p)
    where
      go : Dec (q ≡ p) → Zero q (without h p)
      go (yes e) = rw (← e) (zero_same q hq h z.fits)
      go (no ne) =
          record {
            fits = omega (arith, z.fits, without_size r h p z.fits hp);
            empty = without_other r h p z.fits hp q hq ne ∙ z.empty;
          }

  cleared_zero : (q : ℕ) → q < r → in_row r n k q ≡ false → (left p : ℕ) (h : List ℕ) → p + left ≤ r → 292 * r ≤ length h → p ≤ q → q < p + left
      → Zero q (cleared (others_from r n k left p) h)
  unfolding others_from cleared
  cleared_zero q hq out zero p h few fits from to = absurd (omega arith)
  cleared_zero q hq out (suc left) p h few fits from to =
      let sized = without_size r h p fits (omega arith) in
      by_bool (λ (ps : List ℕ). Zero q (cleared ps h)) (in_row r n k p)
      (λ e. let ne : q ≡ p → ⊥ = λ z. false≢true (sym out ∙ ap (in_row r n k) z ∙ e) in
      cleared_zero q hq out left (p + 1) h (omega arith) fits (omega arith) (omega arith))
      (λ e. here (ℕ_discrete q p)
      (λ ne. cleared_zero q hq out left (p + 1) (without h p) (omega arith) (omega arith) (omega arith) (omega arith)))
    where
      here : Dec (q ≡ p) → ((q ≡ p → ⊥) → Zero q (cleared (others_from r n k left (p + 1)) (without h p)))
          → Zero q (cleared (others_from r n k left (p + 1)) (without h p))
      here (yes z) later =
          cleared_keeps (Zero q) (λ l p hp e. zero_stays q hq l p hp) left (p + 1) (without h p) (omega arith) (rw (← z) (zero_same q hq h fits))
      here (no ne) later = later ne

  -- where they are all 0 already nothing changes
  pub cleared_idle : (h : List ℕ) → ((q : ℕ) → q < r → in_row r n k q ≡ false → record_at h q ≡ empty_place)
      → cleared (others_from r n k r 0) h ≡ h
  cleared_idle h all =
      cleared_keeps (λ (l : List ℕ). l ≡ h) (λ l p hp out e. ap (λ (l : List ℕ). without l p) e ∙ without_idle h p (all p hp out)) r 0 h (omega arith) refl

  -- ---- how a loop clears them

  cleared_turn : (left p : ℕ) (h : List ℕ)
      → cleared (others_from r n k (suc left) p) h ≡ cleared (others_from r n k left (p + 1)) (pick (in_row r n k p) h (without h p))
  unfolding others_from cleared
  cleared_turn left p h = go (in_row r n k p)
    where
      go : (t : Bool) → cleared (pick t (others_from r n k left (p + 1)) (p ∷ others_from r n k left (p + 1))) h
          ≡ cleared (others_from r n k left (p + 1)) (pick t h (without h p))
      go true = refl
      go false = refl

  -- one place more
  pub cleared_more : (p : ℕ) (h h' total : List ℕ) → p < r → h' ≡ pick (in_row r n k p) h (without h p)
      → cleared (others_from r n k (r - p) p) h ≡ total → cleared (others_from r n k (r - (p + 1)) (p + 1)) h' ≡ total
  cleared_more p h h' total l e f =
      let left : r - p ≡ suc (r - (p + 1)) = omega arith in
      rw e (sym (cleared_turn (r - (p + 1)) p h) ∙ rw left at f)

  -- which leaves the length
  pub turn_size : (p : ℕ) (h : List ℕ) → p < r → 292 * r ≤ length h → length (pick (in_row r n k p) h (without h p)) ≡ length h
  turn_size p h l fits = choice (λ (x : List ℕ). length x ≡ length h) (in_row r n k p) refl (without_size r h p fits l)

  -- and all of them
  pub cleared_all : (p : ℕ) (h total : List ℕ) → r ≤ p → cleared (others_from r n k (r - p) p) h ≡ total → h ≡ total
  unfolding others_from cleared
  cleared_all p h total l f = let left : r - p ≡ 0 = omega arith in rw left at f

pub clears_others : ClearsOthers
clears_others history n k =
    let r = places history in
    let fits : 292 * r ≤ length history = omega arith in
    let s = cleared_keeps r n k (Stays r n k history) (stays r n k history fits) r 0 history (omega arith)
    (record { size = refl; rest = refl; row = λ q h t. refl }) in
    record {
      size = s.size;
      place = λ p h.
          by_bool (λ (l : List ℕ). record_at (cleared (others r n k) history) p ≡ l) (in_row r n k p) (s.row p h)
          (λ e. (cleared_zero r n k p h e r 0 history (omega arith) fits (omega arith) (omega arith)).empty);
      rest = s.rest;
    }
