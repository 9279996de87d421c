-- Behind both tests the page has its length and the state is sound, so the page is filled.
use mathlib.Core.Path.{◌≡◌, sym, ◌∙◌}
use lib.ListN.{length}
use borrow.Author.Rules.{rules}
use borrow.Author.Tests.{eq-eqb}
use Rattle.stepper.proofs.Calls.{draw_done}
use Rattle.stepper.proofs.draw.Goals as goal

pub returns : goal.returns
returns c =
    let size : length c.args.page.now ≡ 256 = search rules in
    draw_done _ _ _ (eq-eqb _ 256 size) (sym c.is_sound.ensures.value ∙ c.if-not-is_sound.false) c.fill.ensures
