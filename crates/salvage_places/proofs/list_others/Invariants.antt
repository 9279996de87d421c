-- The invariant: the places below p are looked at, and those of them that are cleared are entered.
use Rattle.salvage_places.proofs.Filling.{Filled}
use Rattle.salvage_places.proofs.list_others.Given as goal

abbrev pub invariant-loop-p : goal.invariant-loop-p
invariant-loop-p l = Filled l.places l.t l.row l.initial.list l.p l.list l.count
