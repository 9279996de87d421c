-- The loop's invariant: the bytes up to `at` are laid, and the rest stands as it was. The checker computes the test of the table.
use Rattle.rules.specs.Load.{digits}
use Rattle.rules.proofs.Laid.{Laid}
use Rattle.digits.proofs.lay_digits.Given as goal

abbrev pub invariant-loop-at : goal.invariant-loop-at
invariant-loop-at l = Laid l.initial.memory 0 digits 80 l.memory l.at
