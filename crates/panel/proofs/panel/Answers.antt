-- A wrong length is refused, of the picture and of the panel; else the upper rows are laid, and each once more. The table is right: one computed test.
use mathlib.Core.Path.{◌≡◌, refl}
use lib.ListN.{length}
use borrow.Author.Rules.{rules}
use borrow.Author.Tests.{eq-eqb}
use Rattle.panel.specs.Panel.{twice}
use Rattle.panel.proofs.Entries.{doubles}
use Rattle.panel.proofs.Dots.{filled, both_rows}
use Rattle.panel.proofs.panel.Goals as goal

pub fill_upper-requires : goal.fill_upper-requires
unfolding twice
fill_upper-requires c = doubles _ refl tt

pub returns : goal.returns
returns c =
    let same : c.in-Some.picture.now ≡ c.args.picture.now = search rules in
    let bytes : length c.args.picture.now ≡ 256 = search rules in
    let dots : length c.args.panel.now ≡ 1024 = search rules in
    filled _ _ _ _ (rw (eq-eqb _ 256 bytes, eq-eqb _ 1024 dots)) refl (both_rows _ _ _ (rw same at c.fill_upper.ensures) c.repeat_rows.ensures)
