-- The invariant: after i moves, what is still to be done from here gives the same answer.
use mathlib.Core.Path.{refl}
use native.Mathlib.Omega.{arith}
use Rattle.running.proofs.Entries.{lists_same}
use Rattle.playing.proofs.Moves.{played, moved}
use Rattle.playing.proofs.make_all.Goals as goal

pub loop-i-init : goal.loop-i-init
loop-i-init c = record { lists = lists_same _ _ _ c.requires; inside = omega arith; same = refl }

pub bounds-keys-i : goal.bounds-keys-i
bounds-keys-i c = omega (arith, c.loop-i.invariant.lists.keys)

pub bounds-randoms-i : goal.bounds-randoms-i
bounds-randoms-i c = omega (arith, c.loop-i.invariant.lists.randoms)

pub loop-i-preserved : goal.loop-i-preserved
loop-i-preserved c =
    moved _ _ _ _ _ _ _ _ _ _ _ _ c.loop-i.invariant c.loop-i-test.true (rw c.named-step.ensures at c.make-last.ensures)

pub returns : goal.returns
returns c = played _ _ _ _ _ _ _ _ _ _ _ c.loop-i.invariant c.loop-i-test.false
