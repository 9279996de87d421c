-- Each arm by the line that was matched: refused by the test that led there, or what its function ensures.
use mathlib.Core.Path.{refl, sym, ap, ◌∙◌}
use Rattle.std.proofs.lemmas.Result.{err_from_is_err_and}
use native.Mathlib.Omega.{arith}
use borrow.Author.Tests.{le-ltb, lt-ltb}
use Rattle.rules.specs.declared.Op.TheVariants.{Plain, AwaitKey, Call, Return, Decimal, Store, Fetch, Unlisted, MachineCode}
use Rattle.rules.specs.declared.Wait.TheVariants.{Idle}
use Rattle.rules.specs.declared.Refusal.TheVariants as refusal
use Rattle.rules.specs.declared.Refusal.TheVariants.{StackFull, StackEmpty}
use Rattle.rules.specs.State.{with_wait}
use Rattle.rules.specs.Step.{refusal_of, after}
use Rattle.rules.proofs.Given.{done_number}
use Rattle.plain_step.proofs.Laws.{refused_early, done_still}
use Rattle.plain_step.proofs.carry_out.Goals as goal

pub returns-then-from-ge-STACK : goal.returns-then-from-ge-STACK
unfolding refusal_of after
returns-then-from-ge-STACK c =
    let a = c.args in
    rw c.in-Call.is
    (refused_early a.m a.memory.now a.spots.now c.requires.0 (Call _) a.keys a.random StackFull (rw (le-ltb a.m.depth 12 (omega (arith, c.if-from-ge-STACK.true, c.from.ensures)))))

pub returns-then-m-eq0 : goal.returns-then-m-eq0
unfolding refusal_of after
returns-then-m-eq0 c =
    let a = c.args in
    rw c.in-Return.is
    (refused_early a.m a.memory.now a.spots.now c.requires.0 (Return) a.keys a.random StackEmpty (rw c.if-m-eq0.true))

pub returns-in-Plain : goal.returns-in-Plain
unfolding refusal_of after
returns-in-Plain c =
    let a = c.args in
    rw (c.in-Plain.is, c.done.ensures)
    (done_still a.m a.memory.now a.spots.now c.requires.0 (Plain _) a.keys a.random refl refl refl (ap (with_wait Idle) c.simple.ensures) refl)

pub returns-else-from-ge-STACK : goal.returns-else-from-ge-STACK
unfolding refusal_of after
returns-else-from-ge-STACK c =
    let a = c.args in
    rw (c.in-Call.is, c.done-in-Call.ensures)
    (done_still a.m a.memory.now a.spots.now c.requires.0 (Call _) a.keys a.random refl refl (rw (lt-ltb a.m.depth 12 (omega (arith, c.if-from-ge-STACK.false, c.from.ensures)))) (ap (with_wait Idle) c.do_subroutine.ensures) refl)

pub returns-else-m-eq0 : goal.returns-else-m-eq0
unfolding refusal_of after
returns-else-m-eq0 c =
    let a = c.args in
    rw (c.in-Return.is, c.done-in-Return.ensures)
    (done_still a.m a.memory.now a.spots.now c.requires.0 (Return) a.keys a.random refl refl (rw (lt-ltb 0 a.m.depth (omega (arith, c.if-m-eq0.false)))) (ap (with_wait Idle) c.return_from_subroutine.ensures) refl)

pub returns-in-AwaitKey : goal.returns-in-AwaitKey
unfolding refusal_of after
returns-in-AwaitKey c =
    let a = c.args in
    rw c.in-AwaitKey.is
    (done_still a.m a.memory.now a.spots.now c.requires.0 (AwaitKey _) a.keys a.random refl refl refl c.let_key.ensures refl)

pub returns-in-Clear : goal.returns-in-Clear
unfolding refusal_of after
returns-in-Clear c = rw c.in-Clear.is (c.erase.ensures _ _)

pub returns-in-Draw : goal.returns-in-Draw
unfolding refusal_of after
returns-in-Draw c = rw c.in-Draw.is (c.show.ensures _ _)

pub returns-in-Unlisted : goal.returns-in-Unlisted
unfolding refusal_of after
returns-in-Unlisted c =
    let a = c.args in
    rw c.in-Unlisted.is
    (refused_early a.m a.memory.now a.spots.now c.requires.0 (Unlisted) a.keys a.random refusal.Unlisted refl)

pub returns-in-MachineCode : goal.returns-in-MachineCode
unfolding refusal_of after
returns-in-MachineCode c =
    let a = c.args in
    rw c.in-MachineCode.is
    (refused_early a.m a.memory.now a.spots.now c.requires.0 (MachineCode) a.keys a.random refusal.MachineCode refl)

pub returns-in_err-within_memory-in-Decimal : goal.returns-in_err-within_memory-in-Decimal
unfolding refusal_of after
returns-in_err-within_memory-in-Decimal c =
    let a = c.args in
    let p = err_from_is_err_and c.from_residual.result c.from_residual.ensures.1 in
    rw (c.in-Decimal.is, p.1, p.2) (refused_early a.m a.memory.now a.spots.now c.requires.0 (Decimal _) a.keys a.random _ (rw c.in_err-within_memory-in-Decimal.was at c.within_memory.ensures))

pub returns-in_ok-within_memory-in-Decimal : goal.returns-in_ok-within_memory-in-Decimal
unfolding refusal_of after
returns-in_ok-within_memory-in-Decimal c =
    let a = c.args in
    let fits = sym c.within_memory.ensures ∙ done_number c.in_ok-within_memory-in-Decimal.was in
    rw (c.in-Decimal.is, c.done-in-Decimal.ensures)
    (done_still a.m a.memory.now a.spots.now c.requires.0 (Decimal _) a.keys a.random refl refl fits (ap (with_wait Idle) c.store_decimal.ensures.0) c.store_decimal.ensures.1)

pub returns-in_err-within_memory-in-Store : goal.returns-in_err-within_memory-in-Store
unfolding refusal_of after
returns-in_err-within_memory-in-Store c =
    let a = c.args in
    let p = err_from_is_err_and c.from_residual-in_err-within_memory-in-Store.result c.from_residual-in_err-within_memory-in-Store.ensures.1 in
    rw (c.in-Store.is, p.1, p.2) (refused_early a.m a.memory.now a.spots.now c.requires.0 (Store _) a.keys a.random _ (rw c.in_err-within_memory-in-Store.was at (rw c.up_to.ensures at c.within_memory-in-Store.ensures)))

pub returns-in_ok-within_memory-in-Store : goal.returns-in_ok-within_memory-in-Store
unfolding refusal_of after
returns-in_ok-within_memory-in-Store c =
    let a = c.args in
    let fits = sym (rw c.up_to.ensures at c.within_memory-in-Store.ensures) ∙ done_number c.in_ok-within_memory-in-Store.was in
    rw (c.in-Store.is, c.done-in-Store.ensures)
    (done_still a.m a.memory.now a.spots.now c.requires.0 (Store _) a.keys a.random refl refl fits (ap (with_wait Idle) c.store.ensures.0) c.store.ensures.1)

pub returns-in_err-within_memory-in-Fetch : goal.returns-in_err-within_memory-in-Fetch
unfolding refusal_of after
returns-in_err-within_memory-in-Fetch c =
    let a = c.args in
    let p = err_from_is_err_and c.from_residual-in_err-within_memory-in-Fetch.result c.from_residual-in_err-within_memory-in-Fetch.ensures.1 in
    rw (c.in-Fetch.is, p.1, p.2) (refused_early a.m a.memory.now a.spots.now c.requires.0 (Fetch _) a.keys a.random _ (rw c.in_err-within_memory-in-Fetch.was at (rw c.up_to-in-Fetch.ensures at c.within_memory-in-Fetch.ensures)))

pub returns-in_ok-within_memory-in-Fetch : goal.returns-in_ok-within_memory-in-Fetch
unfolding refusal_of after
returns-in_ok-within_memory-in-Fetch c =
    let a = c.args in
    let fits = sym (rw c.up_to-in-Fetch.ensures at c.within_memory-in-Fetch.ensures) ∙ done_number c.in_ok-within_memory-in-Fetch.was in
    rw (c.in-Fetch.is, c.done-in-Fetch.ensures)
    (done_still a.m a.memory.now a.spots.now c.requires.0 (Fetch _) a.keys a.random refl refl fits (ap (with_wait Idle) c.fetch.ensures) refl)
