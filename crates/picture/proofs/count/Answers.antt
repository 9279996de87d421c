-- The sum of what the rows have is that of the picture, and small.
use mathlib.Core.Path.{◌≡◌}
use Prim.Native.Nat.{◌^◌, ◌≤◌}
use lib.ListN.{length}
use native.Mathlib.Omega.{arith}
use lib.Count.{ones}
use Rattle.std.proofs.Common.{rules}
use Rattle.std.specs.List.{sum_by}
use Rattle.std.proofs.lemmas.Iterator.{YieldsList-from_slice}
use Rattle.std.proofs.lemmas.Iterator.Adapters.{fits_from_length, at_most_from_yields_List}
use Rattle.picture.proofs.LitRows.{rows_counted}
use Rattle.picture.proofs.count.Goals as goal

pub sum-requires-clause-fits : goal.sum-requires-clause-fits
sum-requires-clause-fits c =
    let few : length c.args.rows.now ≤ 32 = omega arith in
    fits_from_length _ _ 32 (2 ^ 64) (at_most_from_yields_List (YieldsList-from_slice c.args.rows.now cc) few) c.map.ensures.closure (omega arith)
    (λ x r q k. search rules)

pub returns : goal.returns
returns c =
    let is : c.sum.result ≡ sum_by ones c.args.rows.now = search rules in
    rw is (rows_counted c.args.rows.now c.fits-rows c.told-rows)
