-- The callees' promises, put together; the number becomes what the drawing turned over makes of it.
use mathlib.Core.Path.{◌≡◌, refl, ap, ◌∙◌}
use mathlib.Core.Bool.{Bool, true, false}
use native.Mathlib.Omega.{arith}
use Rattle.std.specs.Int.{from_bool}
use Rattle.rules.specs.Number.{pick}
use Rattle.rules.specs.declared.Wait.TheVariants.{Idle}
use Rattle.rules.specs.State.{with_wait, with_lit}
use Rattle.rules.specs.Rows.{bytes_of}
use Rattle.lit.proofs.Laws.{in_range, drawn_balance}
use Rattle.transfers.proofs.draw.Goals as goal

-- the flag is the test's byte
flag_is : (test : Bool) → from_bool test ≡ pick test 1 0
flag_is true = refl
flag_is false = refl

pub counted-lit-requires : goal.counted-lit-requires
counted-lit-requires c =
    let drawing = c in
    let s = drawing in
    let turned = drawing.draw-spots.ensures.turns in
    let balance = drawn_balance _ s.args.pattern.now _ _ (bytes_of s.args.rows.now) turned.dark turned.lit in
    let (low, high) = in_range s.args.c.lit _ (bytes_of s.args.rows.now) _ balance s.requires.4 in
    (omega (arith, turned.few, s.requires.3), low, high)

pub returns : goal.returns
returns c =
    let counted = c in
    let drawing = counted in
    let s = drawing in
    let turned = drawing.draw-spots.ensures.turns in
    let balance = drawn_balance _ s.args.pattern.now _ _ (bytes_of s.args.rows.now) turned.dark turned.lit in
    let number = counted.counted-lit.ensures _ _ balance in record {
      rows_after = drawing.draw-spots.ensures.rows_after;
      by_index = λ stack.
          c.light.ensures _ stack
          ∙ ap (with_lit counted.counted-lit.result) (c.idle.ensures _ stack ∙ ap (with_wait Idle) (c.put-flagged.ensures stack))
          ∙ rw (c.from.ensures, flag_is, turned.dark, number);
      dark_value = (turned.dark, omega (arith, turned.few));
      place_after = drawing.draw-spots.ensures.place_after;
    }
