-- What is turned over is where the two bytes differ.
use native.Mathlib.Omega.{arith}
use Rattle.picture.proofs.Put.{byte_put}
use Rattle.picture.proofs.put_byte.Goals as goal

pub returns : goal.returns
returns c =
    let a = c.args in
    rw (c.from-change.ensures, c.byte_in.ensures) (byte_put a.rows.now a.k a.b (omega arith) (omega arith))
