-- Each way out has the test that led there, and the entry is what the callee says of the place.
use mathlib.Core.Path.{◌≡◌, refl, sym, ◌∙◌}
use mathlib.Core.Bool.{true, false}
use native.Mathlib.Omega.{arith}
use lib.ListN.{length-set}
use Rattle.salvage_places.specs.Places.{in_row}
use Rattle.salvage_places.proofs.enter.Goals as goal

pub returns-then-in_row : goal.returns-then-in_row
returns-then-in_row c =
    let a = c.args in
    let told : in_row a.places a.t.next a.row a.p ≡ true = sym c.in_row.ensures ∙ c.if-in_row.true in
    rw told record { value = refl; list_after = refl }

pub bounds-list-count-2 : goal.bounds-list-count-2
bounds-list-count-2 c = simp length-set (omega arith)

pub returns : goal.returns
returns c =
    let a = c.args in
    let told : in_row a.places a.t.next a.row a.p ≡ false = sym c.in_row.ensures ∙ c.if-in_row.false in
    rw (c.from.ensures, c.standing_of-standing.ensures, told) record { value = refl; list_after = refl }
