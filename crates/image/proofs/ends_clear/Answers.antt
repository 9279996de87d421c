-- A number of two bytes is 0 exactly if both are, and so are two such numbers and their four bytes.
use mathlib.Core.Path.{◌≡◌, sym, ap, ◌∙◌}
use mathlib.Core.Bool.{Bool, ◌&&◌, and-true}
use mathlib.Core.List.{List}
use Prim.Native.Nat.{ℕ, ◌+◌, ◌<◌}
use native.Mathlib.Decide.{ℕ_discrete}
use native.Mathlib.Omega.{arith}
use borrow.Author.Tests.{eq-eqb, ne_eqb}
use lib.Dec.{eqb}
use lib.ListN.{drop, get_or, length}
use Rattle.rules.specs.State.{zeros}
use Rattle.rules.specs.Record.{word_at}
use Rattle.rules.proofs.Zeros.{zeros_stop, zeros_on, zeros_end}
use Rattle.image.proofs.ends_clear.Goals as goal

two_bytes : (l : List ℕ) (k : ℕ) → k + 1 < length l → zeros (drop k l) ≡ (eqb (word_at l k) 0 && zeros (drop (k + 2) l))
two_bytes l k h = first (ℕ_discrete (get_or l k 0) 0)
  where
    second : get_or l k 0 ≡ 0 → Dec (get_or l (k + 1) 0 ≡ 0) → zeros (drop k l) ≡ (eqb (word_at l k) 0 && zeros (drop (k + 2) l))
    second e (yes f) =
        let on : k + 1 + 1 ≡ k + 2 = omega arith in
        zeros_on l k (omega arith) e ∙ zeros_on l (k + 1) h f ∙ rw (on, eq-eqb (word_at l k) 0 (omega arith))
    second e (no f) = zeros_on l k (omega arith) e ∙ zeros_stop l (k + 1) h f ∙ rw (ne_eqb (word_at l k) 0 (λ z. f (omega arith)))

    first : Dec (get_or l k 0 ≡ 0) → zeros (drop k l) ≡ (eqb (word_at l k) 0 && zeros (drop (k + 2) l))
    first (yes e) = second e (ℕ_discrete (get_or l (k + 1) 0) 0)
    first (no e) = zeros_stop l k (omega arith) e ∙ rw (ne_eqb (word_at l k) 0 (λ z. e (omega arith)))

pub returns : goal.returns
returns c =
    let b = c.args.image.now in
    let last : zeros (drop 62 b) ≡ eqb (word_at b 62) 0 = rw (two_bytes b 62 (omega arith), zeros_end b 64 (omega arith)) (and-true (eqb (word_at b 62) 0)) in
    rw (c.word_at.ensures, c.word_at-2.ensures)
    (sym (two_bytes b 60 (omega arith) ∙ ap (λ (z : Bool). eqb (word_at b 60) 0 && z) last))
