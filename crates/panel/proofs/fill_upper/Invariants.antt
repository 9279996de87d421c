-- The loop's invariant: every byte of an upper row that shows one of the picture's bytes so far is as it will be.
use Prim.Native.Nat.{◌*◌}
use Rattle.panel.specs.Bytes.{Upper}
use Rattle.panel.proofs.fill_upper.Given as goal

abbrev pub invariant-loop-two : goal.invariant-loop-two
invariant-loop-two l = Upper l.picture l.panel (2 * l.two)
