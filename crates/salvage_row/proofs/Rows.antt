-- The row by its records, newest first: without the newest, each record stands beside the depth that it stood beside before. So the row is
-- the longest, and a history that holds its records has the same row.
use mathlib.Core.Path.{◌≡◌, refl, sym, ap, ap₂, ◌∙◌}
use mathlib.Core.Bool.{true, false}
use mathlib.Core.List.{List}
use Prim.Native.Nat.{ℕ, zero, suc, ◌+◌, ◌-◌, ◌≤◌, ◌<◌}
use native.Mathlib.Nat.{suc-le-suc_iff}
use native.Mathlib.Omega.{arith}
use Rattle.rules.specs.Number.{pick}
use Rattle.rules.specs.Record.{damaged}
use Rattle.rules.specs.World.{places}
use Rattle.rules.specs.Call.{place_before}
use Rattle.rules.proofs.Choices.{choice, by_bool}
use Rattle.salvage_row.specs.Row.{record_at, depth_at, row, record_back, depth_beside, damaged_back, RowLongest}

module _ (end : ℕ) (history : List ℕ) where
  abbrev before : ℕ → ℕ
  before = place_before (places history)

  abbrev newest : ℕ → List ℕ
  newest n = record_at history (before n)

  -- the records without the newest
  older : (n d j : ℕ) → damaged_back end history (before n) (depth_at (newest n)) j ≡ damaged_back end history n d (suc j)
  older n d zero = refl
  older n d (suc j) = refl

  pub row_most : (k n d : ℕ) → row end history k n d ≤ k
  unfolding row
  row_most zero n d = omega arith
  row_most (suc k) n d = choice (λ (a : ℕ). a ≤ suc k) (damaged end (newest n) d) (omega arith) (suc-le-suc_iff.1 (row_most k _ _))

  pub row_sound : (k n d j : ℕ) → j < row end history k n d → damaged_back end history n d j ≡ false
  unfolding row
  row_sound zero n d j = λ h. absurd (omega arith)
  row_sound (suc k) n d zero =
      by_bool (λ (a : ℕ). 0 < a → damaged_back end history n d 0 ≡ false) (damaged end (newest n) d) (λ e h. absurd (omega arith)) (λ e h. e)
  row_sound (suc k) n d (suc j) =
      by_bool (λ (a : ℕ). suc j < a → damaged_back end history n d (suc j) ≡ false) (damaged end (newest n) d) (λ e h. absurd (omega arith))
      (λ e h. sym (older n d j) ∙ row_sound k (before n) (depth_at (newest n)) j (omega arith))

  row_reaches : (k n d k' : ℕ) → k' ≤ k → ((j : ℕ) → j < k' → damaged_back end history n d j ≡ false) → k' ≤ row end history k n d
  unfolding row
  row_reaches k n d zero few all = omega arith
  row_reaches zero n d (suc k') few all = absurd (omega arith)
  row_reaches (suc k) n d (suc k') few all =
      let rest = row_reaches k (before n) (depth_at (newest n)) k' (omega arith) (λ j h. older n d j ∙ all (suc j) (omega arith)) in
      rw (all 0 (omega arith)) (omega arith)

  -- where all are sound the row has all of them
  row_full : (k n d : ℕ) → ((j : ℕ) → j < k → damaged_back end history n d j ≡ false) → row end history k n d ≡ k
  row_full k n d all = omega (arith, row_most k n d, row_reaches k n d k (omega arith) all)

  -- and then it goes on behind the newest
  pub row_first : (k n d : ℕ) → row end history (suc k) n d ≡ suc k
      → (damaged end (newest n) d ≡ false) × (row end history k (before n) (depth_at (newest n)) ≡ k)
  unfolding row
  row_first k n d =
      let rest = row end history k (before n) (depth_at (newest n)) in
      by_bool (λ (a : ℕ). a ≡ suc k → (damaged end (newest n) d ≡ false) × (rest ≡ k)) (damaged end (newest n) d) (λ e h. absurd (omega arith))
      (λ e h. (e, omega arith))

  -- ---- how a loop finds it, that has seen k of the kept records

  row_next : (kept k n d : ℕ) → k < kept
      → row end history (kept - k) n d ≡ pick (damaged end (newest n) d) 0 (suc (row end history (kept - (k + 1)) (before n) (depth_at (newest n))))
  unfolding row
  row_next kept k n d h = let left : kept - k ≡ suc (kept - (k + 1)) = omega arith in rw left

  pub row_stop : (kept k n d total : ℕ) → k < kept → damaged end (newest n) d ≡ true → k + row end history (kept - k) n d ≡ total → k ≡ total
  row_stop kept k n d total h e f = omega (arith, rw e at (row_next kept k n d h))

  pub row_turn : (kept k n d total : ℕ) → k < kept → damaged end (newest n) d ≡ false → k + row end history (kept - k) n d ≡ total
      → k + 1 + row end history (kept - (k + 1)) (before n) (depth_at (newest n)) ≡ total
  row_turn kept k n d total h e f = omega (arith, rw e at (row_next kept k n d h))

  pub row_over : (kept k n d total : ℕ) → kept ≤ k → k + row end history (kept - k) n d ≡ total → k ≡ total
  unfolding row
  row_over kept k n d total h f = let left : kept - k ≡ 0 = omega arith in omega (arith, rw left at f)

pub row_longest : RowLongest
row_longest end history kept n d =
    record {
      row = record { most = row_most end history kept n d; sound = row_sound end history kept n d };
      longest = λ k' r. row_reaches end history kept n d k' r.most r.sound;
    }

-- ---- another history that holds the records of the row

module _ (end : ℕ) (history after : List ℕ) (k n d : ℕ) (same : (j : ℕ) → j < row end history k n d → record_back after n j ≡ record_back history n j) where
  beside_same : (j : ℕ) → j < row end history k n d → depth_beside after n d j ≡ depth_beside history n d j
  beside_same zero h = refl
  beside_same (suc j) h = ap depth_at (same j (omega arith))

  pub row_stays : row end after (row end history k n d) n d ≡ row end history k n d
  row_stays =
      row_full end after (row end history k n d) n d (λ j h. ap₂ (damaged end) (same j h) (beside_same j h) ∙ row_sound end history k n d j h)
