-- The invariant: the ticks that are left, from here, lead to the same board, beside any memory and spots.
use mathlib.Core.Path.{◌≡◌}
use mathlib.Core.List.{List}
use Prim.Native.Nat.{ℕ, ◌-◌}
use Rattle.plain_step.specs.Does.{board_on}
use Rattle.plain.specs.Gone.{ticked_on}
use Rattle.plain.proofs.ticks_of.Given as goal

abbrev pub invariant-loop-made : goal.invariant-loop-made
invariant-loop-made l =
    (memory spots : List ℕ) → ticked_on (l.count - l._made) (board_on l.m memory spots) ≡ ticked_on l.count (board_on l.initial.m memory spots)
