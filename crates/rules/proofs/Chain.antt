-- The chains of records in a history, down the list of boards and up: how a link is put on one and taken from it, and what a new record
-- leaves of the one behind it.
use mathlib.Core.Path.{◌≡◌, refl, sym, subst}
use mathlib.Core.Bool.{Bool, true, false}
use mathlib.Core.List.{List, ◌∷◌}
use Prim.Native.Nat.{ℕ, zero, suc, ◌+◌, ◌-◌, ◌*◌, ◌≤◌, ◌<◌}
use native.Mathlib.Omega.{arith}
use lib.ListN.{length, get_or, drop}
use lib.Dec.{ltb}
use borrow.Author.Tests.{ltb-true, ltb-false}
use Rattle.rules.specs.Memory.{part, over}
use Rattle.rules.specs.Step.{Board}
use Rattle.rules.specs.Call.{next_place, place_before}
use Rattle.rules.proofs.Choices.{by_test}
use Rattle.rules.proofs.Parts.{part_over_before, part_over_after}
use Rattle.rules.proofs.Link.{Link}
use Rattle.rules.proofs.Ready.{before_below}

-- from place n and the board b on, k links: each leads to the next board of the list, and to the next place of the turn
pub data Chain (Between : ℕ → Board → Board → Type 0) (turn : ℕ → ℕ) : ℕ → ℕ → Board → List Board → Type 0 where
  done : {n : ℕ} {b : Board} {bs : List Board} → Chain Between turn n 0 b bs
  link : {n k : ℕ} {b c : Board} {bs : List Board} → Between n b c → Chain Between turn (turn n) k c bs
      → Chain Between turn n (suc k) b (c ∷ bs)

-- down the list: the record before place n stands between the next board and b
abbrev pub Behind : List ℕ → ℕ → ℕ → ℕ → Board → List Board → Type 0
Behind h r = Chain (λ n b c. Link (part h (292 * place_before r n) 292) c b) (place_before r)

-- up the list: the record at place n stands between b and the next board
abbrev pub Ahead : List ℕ → ℕ → ℕ → ℕ → Board → List Board → Type 0
Ahead h r = Chain (λ n b c. Link (part h (292 * n) 292) b c) (next_place r)

-- ---- places

pub before_next : (r n : ℕ) → n < r → place_before r (next_place r n) ≡ n
before_next r n h =
    by_test (λ (q : ℕ). place_before r q ≡ n) (n + 1) r (λ e. omega arith)
    (λ e. by_test (λ (q : ℕ). q ≡ n) (n + 1) 0 (λ z. omega arith) (λ z. omega arith))

next_before : (r n : ℕ) → n < r → next_place r (place_before r n) ≡ n
next_before r n h =
    by_test (λ (q : ℕ). next_place r q ≡ n) n 0
    (λ e. by_test (λ (q : ℕ). q ≡ n) (r - 1 + 1) r (λ z. omega arith) (λ z. omega arith))
    (λ e. by_test (λ (q : ℕ). q ≡ n) (n - 1 + 1) r (λ z. omega arith) (λ z. omega arith))

-- ---- a link put on a chain, and taken from it

-- the board b comes into the list as the board f that it is
module _ (h : List ℕ) (r n : ℕ) (hn : n < r) {k : ℕ} {b c f : Board} {bs : List Board} (is : b ≡ f) where
  pub push_behind : Link (part h (292 * n) 292) b c → Behind h r n k b bs → Behind h r (next_place r n) (suc k) c (f ∷ bs)
  push_behind l ch =
      let place : n ≡ place_before r (next_place r n) = sym (before_next r n hn) in
      subst (λ (f : Board). Behind h r (next_place r n) (suc k) c (f ∷ bs)) is
      (link (subst (λ (q : ℕ). Link (part h (292 * q) 292) b c) place l) (subst (λ (q : ℕ). Behind h r q k b bs) place ch))

  pub push_ahead : Link (part h (292 * place_before r n) 292) c b → Ahead h r n k b bs → Ahead h r (place_before r n) (suc k) c (f ∷ bs)
  push_ahead l ch =
      subst (λ (f : Board). Ahead h r (place_before r n) (suc k) c (f ∷ bs)) is
      (link l (subst (λ (q : ℕ). Ahead h r q k b bs) (sym (next_before r n hn)) ch))

module _ {Between : ℕ → Board → Board → Type 0} {turn : ℕ → ℕ} where
  -- the first link leads to the first of the list
  pub pop : {n k : ℕ} {b : Board} {bs : List Board} (d : Board) → 0 < k → Chain Between turn n k b bs
      → Between n b (get_or bs 0 d) × Chain Between turn (turn n) (k - 1) (get_or bs 0 d) (drop 1 bs)
  pop d some done = absurd (omega arith)
  pop {n} d some (link {k = k} {c = c} {bs = bs} l ch) =
      let one : k ≡ suc k - 1 = omega arith in
      (l, subst (λ (q : ℕ). Chain Between turn (turn n) q c bs) one ch)

  pub chain_less : {n k : ℕ} {b : Board} {bs : List Board} → Chain Between turn n (suc k) b bs → Chain Between turn n k b bs
  chain_less {k = zero} c = done
  chain_less {k = suc k} (link l c) = link l (chain_less c)

-- ---- the chain behind, under a new record

-- going back from place p, place n is more than k places away: straight down, or round by the last place
pub data Clear (r n k : ℕ) : ℕ → Type 0 where
  straight : {p : ℕ} → k + n < p → Clear r n k p
  round : {p : ℕ} → p ≤ n → k + n < p + r → Clear r n k p

clear_before : (r n k p : ℕ) → n < r → p < r → Clear r n (suc k) p → Clear r n k (place_before r p)
clear_before r n k p hn hp (straight x) = by_test (Clear r n k) p 0 (λ e. straight (omega arith)) (λ e. straight (omega arith))
clear_before r n k p hn hp (round h x) =
    by_test (Clear r n k) p 0 (λ e. straight (omega arith)) (λ e. round (omega arith) (omega arith))

clear_other : (r n k p : ℕ) → n < r → p < r → Clear r n (suc k) p → place_before r p ≡ n → ⊥
clear_other r n k p hn hp (straight x) = by_test (λ (q : ℕ). q ≡ n → ⊥) p 0 (λ e z. omega arith) (λ e z. omega arith)
clear_other r n k p hn hp (round h x) = by_test (λ (q : ℕ). q ≡ n → ⊥) p 0 (λ e z. omega arith) (λ e z. omega arith)

module _ (h record' : List ℕ) (r n : ℕ) (sized : length record' ≡ 292) (fits : 292 * r ≤ length h) (hn : n < r) where
  pub other_place : (p : ℕ) → p < r → (p ≡ n → ⊥) → part (over h (292 * n) record' 292) (292 * p) 292 ≡ part h (292 * p) 292
  other_place p hp ne = go (ltb p n) refl
    where
      go : (t : Bool) → ltb p n ≡ t → part (over h (292 * n) record' 292) (292 * p) 292 ≡ part h (292 * p) 292
      go true e = part_over_before h record' (292 * n) 292 (omega arith) sized (292 * p) 292 (omega (arith, ltb-true p n e))
      go false e = part_over_after h record' (292 * n) 292 (omega arith) sized (292 * p) 292 (omega (arith, ltb-false p n e))

  pub chain_over : {k p : ℕ} {b : Board} {bs : List Board} → p < r → Clear r n k p → Behind h r p k b bs
      → Behind (over h (292 * n) record' 292) r p k b bs
  chain_over hp c done = done
  chain_over {p = p} hp c (link {k = k} {b = b₁} {c = c₁} l ch) =
      let q : place_before r p < r = before_below r p hp in
      link {n = p} {b = b₁} {c = c₁} (rw (other_place (place_before r p) q (clear_other r n k p hn hp c)) l)
      (chain_over q (clear_before r n k p hn hp c) ch)
