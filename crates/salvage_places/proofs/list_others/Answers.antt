-- The invariant: the places below p are looked at, and those of them that are cleared are entered.
use native.Mathlib.Omega.{arith}
use Rattle.salvage_places.proofs.Filling.{none_filled, one_filled, all_filled}
use Rattle.salvage_places.proofs.list_others.Goals as goal

pub loop-p-init : goal.loop-p-init
loop-p-init c = none_filled _ _ _ _

pub enter-count-requires : goal.enter-count-requires
enter-count-requires c = let inv = c.loop-p.invariant in omega (arith, inv.few, inv.same)

pub loop-p-preserved : goal.loop-p-preserved
loop-p-preserved c =
    let entered = c in
    let loop = entered.loop-p in
    one_filled _ _ _ _ loop.list _ loop.count _ loop.p (omega arith) (omega arith) loop.invariant entered.enter-count.ensures.value
    entered.enter-count.ensures.list_after

pub shape_of-list : goal.shape_of-list
shape_of-list c = c.loop-p.invariant.same

pub returns : goal.returns
returns c = let loop = c.loop-p in
    let done = all_filled _ _ _ _ loop.list loop.count loop.p (omega arith) loop.invariant in
    record { value = done.0; list_after = done.1 }
