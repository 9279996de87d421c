-- Refused by the tests 9 or 10, or what the callees give, put together as the definition puts it.
use mathlib.Core.Path.{sym}
use Rattle.std.proofs.Common.{arith}
use Rattle.std.proofs.lemmas.Result.{err_from_is_err_and}
use Rattle.salvage.specs.Salvage.{salvage_refusal}
use Rattle.salvage.proofs.Accepted.{admitted}
use Rattle.salvage.proofs.Given.{given_refused, given_done}
use Rattle.salvage.proofs.salvage.Goals as goal

pub returns-in_err-tested : goal.returns-in_err-tested
unfolding salvage_refusal
returns-in_err-tested c =
    let a = c.args in
    let says = rw (c.history_fits.ensures, c.list_fits.ensures, c.soundly.ensures.value, c.in_err-tested.was) at c.tested.ensures in
    let p = err_from_is_err_and c.from_residual.result c.from_residual.ensures.1 in
    rw (p.1, p.2) (given_refused a.machine a.trail.now a.history.now a.list.now _ says)

pub row_length-kept-requires : goal.row_length-kept-requires
unfolding salvage_refusal
row_length-kept-requires c =
    let a = c.args in
    let says = rw (c.history_fits.ensures, c.list_fits.ensures, c.soundly.ensures.value, c.in_ok-tested.was) at c.tested.ensures in
    (admitted a.machine a.trail.now a.history.now a.list.now (sym says)).next

pub clear_others-requires : goal.clear_others-requires
unfolding salvage_refusal
clear_others-requires c =
    let a = c.args in
    let says = rw (c.history_fits.ensures, c.list_fits.ensures, c.soundly.ensures.value, c.in_ok-tested.was) at c.tested.ensures in
    let p = admitted a.machine a.trail.now a.history.now a.list.now (sym says) in
    (p.next, p.most)

pub list_others-cleared-requires : goal.list_others-cleared-requires
unfolding salvage_refusal
list_others-cleared-requires c =
    let a = c.args in
    let says = rw (c.history_fits.ensures, c.list_fits.ensures, c.soundly.ensures.value, c.in_ok-tested.was) at c.tested.ensures in
    let p = admitted a.machine a.trail.now a.history.now a.list.now (sym says) in
    omega (arith, c.places-places.ensures, p.next, p.most, p.room)

pub returns : goal.returns
unfolding salvage_refusal
returns c =
    let a = c.args in
    let says = rw (c.history_fits.ensures, c.list_fits.ensures, c.soundly.ensures.value, c.in_ok-tested.was) at c.tested.ensures in
    given_done a.machine a.trail.now a.history.now a.list.now _ _ _ _ _ (sym says) c.row_length-kept.ensures c.places-places.ensures
    c.clear_others.ensures c.list_others-cleared.ensures.value c.list_others-cleared.ensures.list_after
