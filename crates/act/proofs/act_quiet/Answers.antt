-- Each arm is the definition's clause for the instruction that was matched: its callee's promise, and what it leaves alone. Six are never asked.
use mathlib.Core.Path.{refl, ap, ◌∙◌}
use native.Mathlib.Omega.{arith}
use lib.Dec.{eqb}
use borrow.Author.Tests.{eqb-true}
use Rattle.rules.specs.declared.Op.TheVariants.{AwaitKey, Call, Return, Draw, Fetch}
use Rattle.rules.specs.declared.Wait.TheVariants.{Idle}
use Rattle.rules.specs.State.{with_wait}
use Rattle.rules.specs.Step.{after, column, row}
use Rattle.parts.specs.Whole.{whole}
use Rattle.decode.proofs.Cases.{elsewhere, no_rows}
use Rattle.transfers.proofs.Quiet.{nothing_drawn, nothing_darkened}
use Rattle.act.proofs.Laws.{call_room, return_entry, fetch_reach, still}
use Rattle.act.proofs.act_quiet.Goals as goal

pub called-requires : goal.called-requires
called-requires c = (c.requires.near, call_room _ _ c.requires.allowed c.requires.end _ c.in-Call.is)

pub returned-requires : goal.returned-requires
returned-requires c = (return_entry _ _ c.requires.allowed c.requires.end c.in-Return.is, c.requires.shallow)

pub fetch-requires : goal.fetch-requires
fetch-requires c =
    record { near = c.requires.near; within = fetch_reach _ _ c.requires.allowed c.requires.end _ c.in-Fetch.is; memory = c.requires.memory }

pub returns-in-Plain : goal.returns-in-Plain
returns-in-Plain c random P g = elsewhere refl (rw c.in-Plain.is at c.requires.quiet)

pub returns-in-AwaitKey : goal.returns-in-AwaitKey
unfolding after
returns-in-AwaitKey c random P g =
    rw c.in-AwaitKey.is (still (AwaitKey _) c.args.keys random (whole c.args.c c.args.v.now c.args.stack.now) _ P refl (record { machine = c.awaited.ensures _; memory = refl; picture = refl }))

pub returns-in-Call : goal.returns-in-Call
unfolding after
returns-in-Call c random P g =
    rw c.in-Call.is
    (still (Call _) c.args.keys random (whole c.args.c c.args.v.now c.args.stack.now) _ P refl (record { machine = c.idle.ensures _ _ ∙ ap (with_wait Idle) (c.called.ensures _); memory = refl; picture = refl }))

pub returns-in-Return : goal.returns-in-Return
unfolding after
returns-in-Return c random P g =
    rw c.in-Return.is
    (still Return c.args.keys random (whole c.args.c c.args.v.now c.args.stack.now) _ P refl (record { machine = c.idle-in-Return.ensures _ _ ∙ ap (with_wait Idle) (c.returned.ensures _); memory = refl; picture = refl }))

pub returns-in-Clear : goal.returns-in-Clear
returns-in-Clear c random P g = elsewhere refl (rw c.in-Clear.is at c.requires.quiet)

-- of no rows, a drawing only sets VF to 0
pub returns-in-Draw : goal.returns-in-Draw
unfolding after
returns-in-Draw c random P g =
    let a = c.args in
    let m = whole a.c a.v.now a.stack.now in
    let is = c.in-Draw.is in
    let none = eqb-true c.in-Draw.field-2 0 (no_rows (eqb c.in-Draw.field-2 0) (rw is at c.requires.quiet)) in
    let at = column m c.in-Draw.field-0 in
    let down = row m c.in-Draw.field-1 in
    rw (is, none)
    (still (Draw _ _ 0) a.keys random m _ P (nothing_drawn at down P g (omega arith))
    (record {
      machine = rw (nothing_darkened at down P) (c.idle-in-Draw.ensures _ _ ∙ ap (with_wait Idle) (c.put.ensures _));
      memory = refl;
      picture = rw (nothing_drawn at down P g (omega arith));
    }))

pub returns-in-Decimal : goal.returns-in-Decimal
returns-in-Decimal c random P g = elsewhere refl (rw c.in-Decimal.is at c.requires.quiet)

pub returns-in-Store : goal.returns-in-Store
returns-in-Store c random P g = elsewhere refl (rw c.in-Store.is at c.requires.quiet)

pub returns-in-Fetch : goal.returns-in-Fetch
unfolding after
returns-in-Fetch c random P g =
    rw c.in-Fetch.is
    (still (Fetch _) c.args.keys random (whole c.args.c c.args.v.now c.args.stack.now) _ P refl (record { machine = c.fetch.ensures _; memory = refl; picture = refl }))

pub returns-in-Unlisted : goal.returns-in-Unlisted
returns-in-Unlisted c random P g = elsewhere refl (rw c.in-Unlisted.is at c.requires.quiet)

pub returns-in-MachineCode : goal.returns-in-MachineCode
returns-in-MachineCode c random P g = elsewhere refl (rw c.in-MachineCode.is at c.requires.quiet)
