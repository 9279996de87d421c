-- It is refused by what was judged; else its record keeps no old bytes, and it leaves memory and the picture.
use mathlib.Core.Path.{◌≡◌, sym, ap, ◌∙◌}
use native.Mathlib.Omega.{arith}
use Rattle.rules.specs.declared.Action.TheVariants.{Step}
use Rattle.rules.specs.declared.Op.{Op}
use Rattle.std.specs.Prelude.{Result, Ok}
use Rattle.std.proofs.lemmas.Result.{err_from_is_err_and}
use Rattle.rules.specs.declared.Refusal.{Refusal}
use Rattle.rules.specs.Instruction.{decode}
use Rattle.rules.specs.Refusal.{number}
use Rattle.rules.specs.World.{World}
use Rattle.rules.specs.Rows.{bytes_of}
use Rattle.rules.proofs.Ready.{Ready}
use Rattle.parts.specs.Whole.{whole}
use Rattle.transfers.proofs.Quiet.{quiet_leaves}
use Rattle.ways.proofs.OneStep.{verdict, in_range, place_inside, passed, nothing_kept, reached_as, reached_back, able, made}
use Rattle.ways.proofs.quiet_step.Goals as goal

-- what was judged is the instruction that was found, and it is that of the two bytes
passed_as : {A : Type 0} {w : World} (h : Ready w) {op found : Op} {o : Result A Refusal} {x : A} → op ≡ found → number o ≡ verdict w h found → o ≡ Ok x → verdict w h op ≡ 0
passed_as h same says done = ap (verdict _ h) same ∙ passed says done

pub judged_quiet-requires : goal.judged_quiet-requires
judged_quiet-requires c =
    (rw (c.quiet_of-op.ensures c.args.c.edition c.requires.0) at c.requires.0, c.requires.1.ready.good.machine.lit)

pub returns-in_err-judged_quiet : goal.returns-in_err-judged_quiet
returns-in_err-judged_quiet c =
    let a = c.args in
    let r = reached_as (c.quiet_of-op.ensures a.c.edition c.requires.0) c.requires.1 in
    let P = bytes_of a.rows.now in
    let p = err_from_is_err_and c.from_residual.result c.from_residual.ensures.1 in
    rw (p.1, p.2)
    (reached_back a.keys a.random a.c a.v.now a.stack.now a.trail a.memory.now P a.history.now _ _ r (rw c.in_err-judged_quiet.was at (c.judged_quiet.ensures a.v.now a.stack.now a.memory.now P r.ready.good.picture)))

pub keep_state-requires : goal.keep_state-requires
keep_state-requires c = (place_inside _ c.requires.1.ready, c.requires.1.ready.good.machine.calls.most)

pub act_quiet-core-requires : goal.act_quiet-core-requires
act_quiet-core-requires c =
    let a = c.args in
    let q = c.requires.0 in
    let r = c.requires.1 in
    let says = c.judged_quiet.ensures a.v.now a.stack.now a.memory.now (bytes_of a.rows.now) r.ready.good.picture in
    rw (c.quiet_of-op-2.ensures a.c.edition q) at (able _ r.ready _ r.there r.near (passed_as r.ready (c.quiet_of-op.ensures a.c.edition q) says c.in_ok-judged_quiet.was) q)

pub grown-requires : goal.grown-requires
grown-requires c = rw c.places-places.ensures (in_range _ c.requires.1.ready)

pub returns : goal.returns
returns c =
    let a = c.args in
    let q = c.requires.0 in
    let r = c.requires.1 in
    let P = bytes_of a.rows.now in
    let m = whole a.c a.v.now a.stack.now in
    let says = c.judged_quiet.ensures a.v.now a.stack.now a.memory.now P r.ready.good.picture in
    let leaves = quiet_leaves (decode a.c.edition a.hi a.lo) m a.memory.now P q r.ready.good.picture in
    made _ _ r (passed_as r.ready (c.quiet_of-op.ensures a.c.edition q) says c.in_ok-judged_quiet.was) a.keys a.random _ _ _ _ _ _
    (rw (← c.quiet_of-op-2.ensures a.c.edition q) at (c.act_quiet-core.ensures a.random P r.ready.good.picture))
    (rw c.places-places.ensures at c.grown.ensures)
    (rw leaves.keeps (nothing_kept m (Step a.keys a.random) _ _ _ c.keep_state.ensures))
    (sym leaves.darkens) (omega arith) (rw leaves.keeps)
