-- The invariant: both counts are those of the first i bytes, of the old ones and of the new ones.
use mathlib.Core.Path.{◌≡◌}
use Prim.Native.Nat.{◌*◌, ◌≤◌}
use Rattle.rules.specs.Memory.{part}
use Rattle.rules.specs.Lit.{lit_in}
use Rattle.rules.specs.Rows.{bytes_of}
use Rattle.picture.proofs.would_put_each.Given as goal

abbrev pub invariant-loop-i : goal.invariant-loop-i
invariant-loop-i l =
    (l.dark ≡ lit_in (part (bytes_of l.rows) l.k l.i)) × (l.lit ≡ lit_in (part l.bytes 0 l.i)) × (l.dark ≤ 8 * l.i) × (l.lit ≤ 8 * l.i)
