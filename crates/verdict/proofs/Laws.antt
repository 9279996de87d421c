-- What the judgement comes to: where an instruction leaves the picture the late 10 does not occur, and where it is refused before it does
-- not count; and a number that is further from both ends than a pattern has bits stays in its range, whatever the drawing turns over.
use mathlib.Core.Path.{◌≡◌, refl, sym}
use mathlib.Core.Bool.{Bool, true, false}
use mathlib.Core.List.{List}
use Prim.Native.Nat.{ℕ, ◌+◌, ◌*◌, ◌≤◌}
use native.Mathlib.Omega.{arith}
use lib.Dec.{leb}
use lib.ListN.{length}
use borrow.Author.Tests.{leb-true}
use Rattle.rules.specs.declared.Machine.{Machine}
use Rattle.rules.specs.Number.{or_later, unless}
use Rattle.rules.specs.Picture.{drawn}
use Rattle.rules.specs.Step.{lit_refusal, past, reach}
use Rattle.rules.proofs.Choices.{by_test, no_later, passed}
use Rattle.rules.proofs.Counted.{lit_passes, same_passes}
use Rattle.rules.proofs.Balance.{drawn_lit, few_darkened, few_lightened}

pub still : (lit : ℕ) (P : List ℕ) → lit ≤ 2048 → (n : ℕ) → n ≡ or_later n (lit_refusal lit P P)
still lit P h n = sym (no_later n (lit_refusal lit P P) (same_passes lit P h))

pub settled : (n k later : ℕ) → n ≡ k → (n ≡ 0 → ⊥) → n ≡ or_later k later
settled n k later e some = by_test (λ (m : ℕ). n ≡ m) k 0 (λ z. absurd (some (omega arith))) (λ ne. e)

-- bytes past the end of memory are refused by 6
pub refused : (m : Machine) (n : ℕ) → (past m n ≡ 0 → ⊥) → past m n ≡ 6
refused m n some = go (leb (reach m n) m.end) some
  where
    go : (t : Bool) → (unless t 6 0 ≡ 0 → ⊥) → unless t 6 0 ≡ 6
    go true ne = absurd (ne refl)
    go false ne = refl

pub within : (m : Machine) (n : ℕ) → past m n ≡ 0 → reach m n ≤ m.end
within m n e = leb-true (reach m n) m.end (passed (leb (reach m n) m.end) 5 0 e).0

pub no_look : (lit : ℕ) (pattern : List ℕ) (column row : ℕ) (P : List ℕ) → 8 * length pattern ≤ lit → lit + 8 * length pattern ≤ 2048
    → lit_refusal lit P (drawn pattern column row P) ≡ 0
no_look lit pattern column row P low high =
    let balance = drawn_lit pattern column row P in
    lit_passes lit P (drawn pattern column row P) (omega (arith, balance, few_darkened pattern column row P))
    (omega (arith, balance, few_lightened pattern column row P))
