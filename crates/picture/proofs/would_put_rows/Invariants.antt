-- The invariant: both counts are those of the bytes of y rows, of the old ones and of the new ones.
use mathlib.Core.Path.{◌≡◌}
use Prim.Native.Nat.{◌*◌, ◌≤◌}
use Rattle.rules.specs.Memory.{part}
use Rattle.rules.specs.Lit.{lit_in}
use Rattle.rules.specs.Rows.{bytes_of}
use Rattle.picture.proofs.would_put_rows.Given as goal

abbrev pub invariant-loop-y : goal.invariant-loop-y
invariant-loop-y l =
    (l.dark ≡ lit_in (part (bytes_of l.rows) l.k (8 * l.y))) × (l.lit ≡ lit_in (part l.bytes 0 (8 * l.y))) × (l.dark ≤ 64 * l.y) × (l.lit ≤ 64 * l.y)
