-- What is counted in three pieces is counted in all of the bytes.
use native.Mathlib.Omega.{arith}
use Rattle.picture.proofs.InPieces.{pieces_lit}
use Rattle.picture.proofs.would_put.Goals as goal

pub returns-clause-dark_value : goal.returns-clause-dark_value
returns-clause-dark_value c =
    let a = c.args in
    pieces_lit a.bytes.now _ _ _ c.pieces.ensures.all a.rows.now a.k _ _ _ c.told-rows (λ i. omega (arith, c.type_inv.bytes i)) c.requires
    c.would_put_each-a.ensures c.would_put_rows-b.ensures c.would_put_each-c.ensures
