-- What was lit goes dark and nothing is lit, so the number becomes what is left of it.
use mathlib.Core.Path.{ap, ◌∙◌}
use Prim.Native.Nat.{ℕ}
use Rattle.rules.specs.declared.Wait.TheVariants.{Idle}
use Rattle.rules.specs.State.{with_wait, with_lit}
use Rattle.rules.specs.Registers.{onward}
use Rattle.rules.specs.Rows.{bytes_of}
use Rattle.rules.proofs.Parts.{zeroes}
use Rattle.parts.specs.Whole.{whole}
use Rattle.lit.proofs.Laws.{in_range}
use Rattle.transfers.proofs.clear.Goals as goal

pub counted-lit-requires : goal.counted-lit-requires
counted-lit-requires c =
    let (low, high) = in_range c.args.c.lit _ (bytes_of c.args.rows.now) (zeroes 256) c.requires.3 c.requires.1 in
    (c.requires.2, low, high)

pub returns : goal.returns
returns c =
    let counted = c in
    let cleared = counted in
    let s = cleared in
    let before = bytes_of s.args.rows.now in record {
      rows_after = cleared.clear.ensures;
      by_index = λ v stack.
          c.light.ensures v stack
          ∙ ap (with_lit counted.counted-lit.result) (c.idle.ensures v stack ∙ ap (with_wait Idle) (c.onward.ensures v stack))
          ∙ ap (λ (n : ℕ). with_lit n (with_wait Idle (onward (whole s.args.c v stack)))) (counted.counted-lit.ensures before (zeroes 256) s.requires.3);
    }
