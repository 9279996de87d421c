-- Each arm is the definition's clause for the instruction that was matched: its callee's promise, and what it leaves alone. Eight are never asked.
use mathlib.Core.Path.{refl}
use mathlib.Core.List.{[]}
use native.Mathlib.Omega.{arith}
use lib.Dec.{eqb}
use Rattle.rules.specs.declared.Op.TheVariants.{Decimal, Store}
use Rattle.rules.specs.Step.{after, refusal_of}
use Rattle.parts.specs.Whole.{whole}
use Rattle.decode.proofs.Cases.{elsewhere, drawing_apart}
use Rattle.act.proofs.Laws.{decimal_reach, store_reach, clear_passes, clear_balance, still}
use Rattle.act.proofs.act.Goals as goal

pub clear-requires : goal.clear-requires
clear-requires c =
    let ok = c.requires [] in
    let is = c.in-Clear.is in
    (ok.near, clear_passes _ _ _ _ ok.passes is, ok.most, clear_balance _ _ _ _ _ ok.balance is)

pub decimal-requires : goal.decimal-requires
decimal-requires c =
    let ok = c.requires [] in
    record { near = ok.near; within = decimal_reach _ _ ok.allowed ok.end _ c.in-Decimal.is; memory = ok.memory }

pub store-requires : goal.store-requires
store-requires c =
    let ok = c.requires [] in
    record { near = ok.near; within = store_reach _ _ ok.allowed ok.end _ c.in-Store.is; memory = ok.memory }

pub returns-in-Plain : goal.returns-in-Plain
returns-in-Plain c keys random stack = elsewhere refl (rw c.in-Plain.is at (c.requires []).other)

pub returns-in-AwaitKey : goal.returns-in-AwaitKey
returns-in-AwaitKey c keys random stack = elsewhere refl (rw c.in-AwaitKey.is at (c.requires []).other)

pub returns-in-Call : goal.returns-in-Call
returns-in-Call c keys random stack = elsewhere refl (rw c.in-Call.is at (c.requires []).other)

pub returns-in-Return : goal.returns-in-Return
returns-in-Return c keys random stack = elsewhere refl (rw c.in-Return.is at (c.requires []).other)

pub returns-in-Clear : goal.returns-in-Clear
unfolding after
returns-in-Clear c keys random stack =
    rw c.in-Clear.is (record { machine = c.clear.ensures.by_index _ _; memory = refl; picture = c.clear.ensures.rows_after })

pub returns-in-Draw : goal.returns-in-Draw
returns-in-Draw c keys random stack = drawing_apart (eqb c.in-Draw.field-2 0) (rw c.in-Draw.is at (c.requires []).other)

pub returns-in-Decimal : goal.returns-in-Decimal
unfolding after
returns-in-Decimal c keys random stack =
    rw c.in-Decimal.is
    (still (Decimal _) keys random (whole c.args.c c.args.v.now stack) _ _ refl (record { machine = c.decimal.ensures.by_index _ _; memory = c.decimal.ensures.memory_after; picture = refl }))

pub returns-in-Store : goal.returns-in-Store
unfolding after
returns-in-Store c keys random stack =
    rw c.in-Store.is
    (still (Store _) keys random (whole c.args.c c.args.v.now stack) _ _ refl (record { machine = c.store.ensures.by_index _ _; memory = c.store.ensures.memory_after; picture = refl }))

pub returns-in-Fetch : goal.returns-in-Fetch
returns-in-Fetch c keys random stack = elsewhere refl (rw c.in-Fetch.is at (c.requires []).other)

pub returns-in-Unlisted : goal.returns-in-Unlisted
unfolding refusal_of
returns-in-Unlisted c keys random stack = absurd (omega (arith, rw c.in-Unlisted.is at (c.requires []).allowed))

pub returns-in-MachineCode : goal.returns-in-MachineCode
unfolding refusal_of
returns-in-MachineCode c keys random stack = absurd (omega (arith, rw c.in-MachineCode.is at (c.requires []).allowed))
