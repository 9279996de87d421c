-- The promises are tight: what both of two answers equal is equal, and an outcome is known by its number.
use mathlib.Core.Path.{◌≡◌, sym, ◌∙◌}
use mathlib.Core.List.{List}
use Prim.Native.Nat.{ℕ}
use Rattle.rules.specs.Refusal.{Outcome, number}
use Rattle.rules.proofs.OnlyOne.{one_outcome}
use Rattle.turning.specs.Turn.{turn_refusal, rows_after, bytes_after}

module _ (picture rows : List ℕ) (o p : Outcome) (is : number o ≡ turn_refusal picture rows) (also : number p ≡ turn_refusal picture rows) where
  pub only_one_rows : (after other : List ℕ) → after ≡ rows_after picture rows → other ≡ rows_after picture rows → (o ≡ p) × (after ≡ other)
  only_one_rows after other a b = (one_outcome o p (is ∙ sym also), a ∙ sym b)

  pub only_one_bytes : (after other : List ℕ) → after ≡ bytes_after rows picture → other ≡ bytes_after rows picture → (o ≡ p) × (after ≡ other)
  only_one_bytes after other a b = (one_outcome o p (is ∙ sym also), a ∙ sym b)
