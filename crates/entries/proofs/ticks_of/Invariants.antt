-- The invariant: the ticks that are left, from here, lead to the same world, beside any memory and picture.
use mathlib.Core.Path.{◌≡◌}
use mathlib.Core.List.{List}
use Prim.Native.Nat.{ℕ, ◌-◌}
use Rattle.rules.specs.World.{world}
use Rattle.rules.specs.Run.{ticked_by}
use Rattle.parts.specs.Whole.{whole}
use Rattle.ticking.specs.Tickable.{Tickable}
use Rattle.entries.proofs.ticks_of.Given as goal

abbrev pub invariant-loop-made : goal.invariant-loop-made
invariant-loop-made l =
    Tickable (whole l.c l.v l.stack) l.trail l.history
    × ((mem pic : List ℕ) → ticked_by (l.count - l._made) (world (whole l.c l.v l.stack) l.trail mem pic l.history) ≡ ticked_by l.count (world (whole l.initial.c l.v l.stack) l.initial.trail mem pic l.initial.history))
