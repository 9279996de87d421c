-- The old bytes of a change that reaches no further than it may are as many as it counts, and no more than a picture has.
use mathlib.Core.Path.{◌≡◌, refl}
use mathlib.Core.List.{List}
use Prim.Native.Nat.{ℕ, ◌≤◌}
use native.Mathlib.Omega.{arith}
use lib.ListN.{length}
use Rattle.rules.specs.declared.Change.{Change}
use Rattle.rules.specs.declared.Change.TheVariants.{Nothing, InMemory, InPicture}
use Rattle.rules.specs.Record.{old, count}
use Rattle.rules.specs.Rows.{bytes_of}
use Rattle.rules.proofs.Parts.{part_length}
use Rattle.rules.proofs.Turning.{bytes_length}
use Rattle.keeping.specs.Writable.{Reaches}

pub old_counted : (memory rows : List ℕ) (c : Change) → Reaches c memory rows → (length (old c memory (bytes_of rows)) ≡ count c) × (count c ≤ 256)
old_counted memory rows Nothing r = (refl, omega arith)
old_counted memory rows (InMemory s n) r = (part_length memory s n r.1, r.0)
old_counted memory rows (InPicture s n) r = (part_length (bytes_of rows) s n (omega (arith, bytes_length rows, r.2, r.3)), omega (arith, r.2))
