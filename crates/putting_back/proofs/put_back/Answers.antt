-- In each arm the record's old bytes are laid where the change says.
use mathlib.Core.Path.{refl}
use native.Mathlib.Omega.{arith}
use Rattle.putting_back.proofs.put_back.Goals as goal

pub old_bytes-requires : goal.old_bytes-requires
old_bytes-requires c = let k = rw c.in-InMemory.is at c.requires in omega (arith, k.1)

pub lay-requires : goal.lay-requires
lay-requires c = let k = rw c.in-InMemory.is at c.requires in omega (arith, k.2, c.old_bytes.ensures.len)

pub old_bytes-requires-in-InPicture : goal.old_bytes-requires-in-InPicture
old_bytes-requires-in-InPicture c = let k = rw c.in-InPicture.is at c.requires in k.1

pub put_bytes-requires : goal.put_bytes-requires
put_bytes-requires c = let k = rw c.in-InPicture.is at c.requires in omega (arith, k.2, c.old_bytes-in-InPicture.ensures.len)

pub returns-in-Nothing : goal.returns-in-Nothing
returns-in-Nothing c = rw c.in-Nothing.is record { memory_after = refl; rows_after = refl }

pub returns-in-InMemory : goal.returns-in-InMemory
returns-in-InMemory c =
    rw c.in-InMemory.is record { memory_after = rw (c.old_bytes.ensures.len, c.old_bytes.ensures.value) at c.lay.ensures; rows_after = refl }

pub returns-in-InPicture : goal.returns-in-InPicture
returns-in-InPicture c =
    rw c.in-InPicture.is record { memory_after = refl; rows_after = rw (c.old_bytes-in-InPicture.ensures.len, c.old_bytes-in-InPicture.ensures.value) at c.put_bytes.ensures }
