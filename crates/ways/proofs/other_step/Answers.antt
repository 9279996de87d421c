-- It is refused by what was judged; else its record is kept in its two parts, and it acts.
use mathlib.Core.Path.{sym}
use native.Mathlib.Omega.{arith}
use Rattle.std.proofs.lemmas.Result.{err_from_is_err_and}
use Rattle.rules.specs.Rows.{bytes_of}
use Rattle.rules.proofs.Choices.{both_zero}
use Rattle.rules.proofs.Turning.{picture_rows}
use Rattle.parts.specs.Whole.{whole}
use Rattle.ways.proofs.OneStep.{in_range, place_inside, passed, reached_back, step_reaches, step_kept, made, other_dark}
use Rattle.ways.proofs.other_step.Goals as goal

pub cleared-dark-requires : goal.cleared-dark-requires
cleared-dark-requires c = c.requires.0

pub judged-requires : goal.judged-requires
judged-requires c = (c.requires.0, c.requires.1.ready.good.machine.lit, c.cleared-dark.ensures.upper_bound)

pub returns-in_err-judged : goal.returns-in_err-judged
returns-in_err-judged c =
    let a = c.args in
    let P = bytes_of a.rows.now in
    let says = c.judged.ensures a.v.now a.stack.now a.memory.now P (c.cleared-dark.ensures.balance _ _) in
    let p = err_from_is_err_and c.from_residual.result c.from_residual.ensures.1 in
    rw (p.1, p.2)
    (reached_back a.keys a.random a.c a.v.now a.stack.now a.trail a.memory.now P a.history.now a.op _ c.requires.1 (rw c.in_err-judged.was at says))

pub keep-requires : goal.keep-requires
keep-requires c = (place_inside _ c.requires.1.ready, c.requires.1.ready.good.machine.calls.most)

pub keep_old-requires : goal.keep_old-requires
keep_old-requires c =
    let a = c.args in
    let r = c.requires.1 in
    let says = c.judged.ensures a.v.now a.stack.now a.memory.now (bytes_of a.rows.now) (c.cleared-dark.ensures.balance _ _) in (
      omega (arith, place_inside _ r.ready),
      rw (c.change_of-change.ensures a.stack.now) (step_reaches _ r.ready a.op r.there r.near (passed says c.in_ok-judged.was) a.rows.now (picture_rows a.rows.now r.ready.good.picture.size)),
    )

pub act-core-requires : goal.act-core-requires
act-core-requires c stack =
    let a = c.args in
    let r = c.requires.1 in
    let good = r.ready.good in
    let says = c.judged.ensures a.v.now stack a.memory.now (bytes_of a.rows.now) (c.cleared-dark.ensures.balance _ _) in
    let (allowed, passes) = both_zero _ _ (passed says c.in_ok-judged.was) in
    record {
      other = c.requires.0;
      end = good.machine.end.most;
      near = omega (arith, r.near, good.machine.end.most);
      allowed = allowed;
      passes = passes;
      most = c.cleared-dark.ensures.upper_bound;
      balance = c.cleared-dark.ensures.balance _ _;
      memory = good.memory.size;
      rows = picture_rows a.rows.now good.picture.size;
    }

pub grown-requires : goal.grown-requires
grown-requires c = rw c.places-places.ensures (in_range _ c.requires.1.ready)

pub returns : goal.returns
returns c =
    let a = c.args in
    let r = c.requires.1 in
    let P = bytes_of a.rows.now in
    let says = c.judged.ensures a.v.now a.stack.now a.memory.now P (c.cleared-dark.ensures.balance _ _) in
    let allowed = passed says c.in_ok-judged.was in
    let change = c.change_of-change.ensures a.stack.now in
    let sized = picture_rows a.rows.now r.ready.good.picture.size in
    let written = step_kept _ r.ready a.op r.there r.near allowed a.rows.now _ _ _ sized (rw change at c.keep.ensures) (rw change at c.keep_old.ensures) in
    made _ a.op r allowed a.keys a.random _ _ _ _ _ _ (c.act-core.ensures a.keys a.random a.stack.now)
    (rw c.places-places.ensures at c.grown.ensures) written (sym (other_dark a.op (whole a.c a.v.now a.stack.now) a.memory.now P c.requires.0)) (omega arith)
    (rw change at c.count_of.ensures)
