-- Each arm is the definition's clause for the instruction that was matched: 00E0 makes dark what is lit, and the others leave the picture. Six
-- are never asked.
use mathlib.Core.Path.{refl}
use native.Mathlib.Omega.{arith}
use lib.Dec.{eqb}
use Rattle.rules.specs.Rows.{bytes_of}
use Rattle.rules.specs.Step.{after}
use Rattle.lit.proofs.Laws.{cleared_balance}
use Rattle.decode.proofs.Cases.{elsewhere, drawing_apart}
use Rattle.verdict.proofs.cleared.Goals as goal

pub returns-in-Plain : goal.returns-in-Plain
returns-in-Plain c = elsewhere refl (rw c.in-Plain.is at c.requires)

pub returns-in-AwaitKey : goal.returns-in-AwaitKey
returns-in-AwaitKey c = elsewhere refl (rw c.in-AwaitKey.is at c.requires)

pub returns-in-Call : goal.returns-in-Call
returns-in-Call c = elsewhere refl (rw c.in-Call.is at c.requires)

pub returns-in-Return : goal.returns-in-Return
returns-in-Return c = elsewhere refl (rw c.in-Return.is at c.requires)

pub returns-in-Clear : goal.returns-in-Clear
unfolding after
returns-in-Clear c =
    let counted = c.count.ensures in
    record { balance = λ m memory. rw c.in-Clear.is (cleared_balance _ (bytes_of c.args.rows.now) counted.0 refl); upper_bound = counted.1 }

pub returns-in-Draw : goal.returns-in-Draw
returns-in-Draw c = drawing_apart (eqb c.in-Draw.field-2 0) (rw c.in-Draw.is at c.requires)

pub returns-in-Decimal : goal.returns-in-Decimal
unfolding after
returns-in-Decimal c = record { balance = λ m memory. rw c.in-Decimal.is refl; upper_bound = omega arith }

pub returns-in-Store : goal.returns-in-Store
unfolding after
returns-in-Store c = record { balance = λ m memory. rw c.in-Store.is refl; upper_bound = omega arith }

pub returns-in-Fetch : goal.returns-in-Fetch
returns-in-Fetch c = elsewhere refl (rw c.in-Fetch.is at c.requires)

pub returns-in-Unlisted : goal.returns-in-Unlisted
unfolding after
returns-in-Unlisted c = record { balance = λ m memory. rw c.in-Unlisted.is refl; upper_bound = omega arith }

pub returns-in-MachineCode : goal.returns-in-MachineCode
unfolding after
returns-in-MachineCode c = record { balance = λ m memory. rw c.in-MachineCode.is refl; upper_bound = omega arith }
