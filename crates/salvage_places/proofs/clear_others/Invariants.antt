-- The invariant: what is cleared from place p on, of the history as it is, gives what is cleared of the history as it came.
use mathlib.Core.Path.{◌≡◌}
use Prim.Native.Nat.{◌-◌, ◌≤◌, ◌<◌}
use lib.ListN.{length}
use Rattle.rules.specs.World as fit
use Rattle.salvage_places.specs.Places.{others, others_from}
use Rattle.salvage_places.specs.Cleared.{cleared}
use Rattle.salvage_places.proofs.clear_others.Given as goal

abbrev pub invariant-loop-p : goal.invariant-loop-p
invariant-loop-p l =
    (l.places ≡ fit.places l.initial.history) × (l.next < l.places) × (length l.initial.history ≤ 65536) × (length l.history ≡ length l.initial.history)
    × (cleared (others_from l.places l.next l.row (l.places - l.p) l.p) l.history ≡ cleared (others (fit.places l.initial.history) l.next l.row) l.initial.history)
