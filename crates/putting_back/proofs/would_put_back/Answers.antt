-- Where the picture stays nothing is turned over; else the bytes that are lent are the record's old bytes.
use native.Mathlib.Omega.{arith}
use Rattle.putting_back.proofs.would_put_back.Goals as goal

pub old_bytes-requires : goal.old_bytes-requires
old_bytes-requires c = let k = rw c.in-InPicture.is at c.requires in k.1

pub would_put-requires : goal.would_put-requires
would_put-requires c = let k = rw c.in-InPicture.is at c.requires in omega (arith, k.2, c.old_bytes.ensures.len)

pub returns-in-InPicture : goal.returns-in-InPicture
returns-in-InPicture c =
    rw c.in-InPicture.is
    record { balance = rw (c.old_bytes.ensures.len, c.old_bytes.ensures.value) at c.would_put.ensures.dark_value; dark_bound = c.would_put.ensures.dark_bound }
