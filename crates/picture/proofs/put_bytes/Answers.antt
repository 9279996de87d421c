-- Three pieces that are laid one after the other are all of the bytes.
use native.Mathlib.Omega.{arith}
use Rattle.rules.proofs.Turning.{bytes_length}
use Rattle.picture.proofs.InPieces.{pieces_laid}
use Rattle.picture.proofs.put_bytes.Goals as goal

pub returns : goal.returns
returns c =
    let a = c.args in
    pieces_laid a.bytes.now _ _ _ c.pieces.ensures.all a.k _ _ _ _ (omega (arith, bytes_length a.rows.now)) c.put_each.ensures c.put_rows.ensures c.put_each-2.ensures
