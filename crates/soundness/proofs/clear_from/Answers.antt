-- The entries from the depth on are all tested, or one that is not 0 is found.
use Rattle.std.proofs.Common.{◌≡◌, ℕ, ◌<◌, List, [], ◌∷◌, zero, suc, length, get_or, Bool, true, false, refl, sym, ap, ◌∙◌, arith, rules, tests}
use borrow.Author.Tests.{ne_eqb}
use Rattle.std.specs.Bool.{MatchBool}
use Rattle.std.specs.List.{AllWithin, HoldsAt}
use Rattle.std.proofs.lemmas.Bool.{and_right}
use Rattle.std.proofs.lemmas.Iterator.{cases_from_all, YieldsList-from_slice}
use Rattle.std.proofs.lemmas.Slice.{between_to_end}
use lib.Dec.{eqb}
use Rattle.rules.specs.State.{zeros}
use Rattle.soundness.proofs.clear_from.Goals as goal

all_zero : (l : List ℕ) → ((k : ℕ) → k < length l → get_or l k 0 ≡ 0) → zeros l ≡ true
all_zero [] h = refl
all_zero (x ∷ xs) h = rw (h 0 (omega arith)) (all_zero xs (λ k q. h (suc k) (omega arith)))

some_not : (l : List ℕ) (k : ℕ) → k < length l → (get_or l k 0 ≡ 0 → ⊥) → zeros l ≡ false
some_not [] k h ne = absurd (omega arith)
some_not (x ∷ xs) zero h ne = rw (ne_eqb x 0 ne)
some_not (x ∷ xs) (suc k) h ne = and_right (eqb x 0) (zeros xs) (some_not xs k (omega arith) ne)

decided : (l : List ℕ) (r : Bool) → MatchBool r (AllWithin (λ x. x ≡ 0) l 0 (length l)) ((k : ℕ) × (k < length l) × HoldsAt (λ x. x ≡ 0 → ⊥) l k) → r ≡ zeros l
decided l true all = sym (all_zero l (λ k h. all k 0 (omega arith) h))
decided l false some = sym (some_not l some.0 some.1 (some.2 0))

pub returns : goal.returns
returns c =
    let cases = cases_from_all _ _ _ (λ (x : ℕ). x ≡ 0) (λ (x : ℕ). x ≡ 0 → ⊥) c.all.ensures.ran (YieldsList-from_slice _ c.iter.ensures.rest) (λ x q k. search (rules, tests)) (λ x q k. search (rules, tests)) in
    let sized : length c.args.stack ≡ 12 = search rules in
    decided _ _ cases ∙ ap zeros (between_to_end c.args.stack c.args.at 12 (omega arith))
