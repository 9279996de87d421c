-- The sum of the spots is their tally.
use mathlib.Core.Path.{◌≡◌, refl, ◌∙◌}
use Prim.Native.Nat.{◌^◌, ◌≤◌}
use native.Mathlib.Omega.{arith}
use borrow.Author.Rules.{rules}
use lib.ListN.{length}
use Rattle.std.specs.List.{sum_by}
use Rattle.std.proofs.lemmas.Iterator.{YieldsList-from_slice}
use Rattle.std.proofs.lemmas.Iterator.Adapters.{fits_from_length, at_most_from_yields_List}
use Rattle.spots.proofs.Forms.{spot_small, picture_lit}
use Rattle.spots.proofs.Walked.{tally_whole}
use Rattle.spots.proofs.lit.Goals as goal

pub sum-requires-clause-fits : goal.sum-requires-clause-fits
sum-requires-clause-fits c =
    let few : length c.args.spots.now ≤ 2048 = omega (arith, c.requires.size) in
    fits_from_length _ _ 2048 (2 ^ 64) (at_most_from_yields_List (YieldsList-from_slice c.args.spots.now cc) few) c.map.ensures.closure (omega arith)
    (λ x r q k. search rules)

pub returns : goal.returns
returns c =
    let spots = c.args.spots.now in
    let is : c.sum.result ≡ sum_by (λ s. s) c.args.spots.now = search rules in
    let (whole, few) = tally_whole spots (spot_small c.requires) 2048 refl c.requires.size in
    rw is (whole ∙ picture_lit spots c.requires, few)
