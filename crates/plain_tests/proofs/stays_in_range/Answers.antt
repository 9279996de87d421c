-- The counts of the two pictures are the ones that are handed in.
use mathlib.Core.Path.{◌≡◌}
use Prim.Native.Nat.{ℕ, ◌+◌}
use native.Mathlib.Omega.{arith}
use lib.Dec.{leb}
use borrow.Author.Tests.{leb-true, leb-false, lt-leb}
use Rattle.rules.specs.Step.{lit_refusal}
use Rattle.rules.proofs.Choices.{by_bool}
use Rattle.rules.proofs.Counted.{lit_passes, lit_fails}
use Rattle.plain_tests.proofs.stays_in_range.Goals as goal

pub returns-then-before-sum : goal.returns-then-before-sum
returns-then-before-sum c =
    λ p q b a.
    let n = c.args.lit in
    let sum = c.from.result + c.args.after in
    by_bool (λ (k : ℕ). lit_refusal n p q ≡ k) (leb sum (c.args.before + 2048))
    (λ t. lit_passes n p q (omega (arith, c.if-before-sum.true, c.from.ensures)) (omega (arith, leb-true sum (c.args.before + 2048) t, c.from.ensures)))
    (λ f. lit_fails n p q (λ low high. omega (arith, leb-false sum (c.args.before + 2048) f, c.from.ensures)))

pub returns-else-before-sum : goal.returns-else-before-sum
returns-else-before-sum c =
    λ p q b a. rw (lt-leb _ _ c.if-before-sum.false) (lit_fails c.args.lit p q (λ low high. omega (arith, c.if-before-sum.false, c.from.ensures)))
