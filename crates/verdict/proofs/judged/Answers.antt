-- Each arm is the definition's clause for the instruction that was matched, by the test that led there; one that leaves the picture leaves
-- the number in its range. Six are never asked.
use mathlib.Core.Path.{refl, ◌∙◌}
use lib.Dec.{eqb}
use Rattle.rules.specs.Step.{refusal_of, after}
use Rattle.decode.proofs.Cases.{elsewhere, drawing_apart}
use Rattle.verdict.proofs.Laws.{still}
use Rattle.verdict.proofs.judged.Goals as goal

pub returns-in-Plain : goal.returns-in-Plain
returns-in-Plain c v stack memory picture balance = elsewhere refl (rw c.in-Plain.is at c.requires.0)

pub returns-in-AwaitKey : goal.returns-in-AwaitKey
returns-in-AwaitKey c v stack memory picture balance = elsewhere refl (rw c.in-AwaitKey.is at c.requires.0)

pub returns-in-Call : goal.returns-in-Call
returns-in-Call c v stack memory picture balance = elsewhere refl (rw c.in-Call.is at c.requires.0)

pub returns-in-Return : goal.returns-in-Return
returns-in-Return c v stack memory picture balance = elsewhere refl (rw c.in-Return.is at c.requires.0)

pub returns-in-Clear : goal.returns-in-Clear
unfolding refusal_of after
returns-in-Clear c v stack memory picture balance = rw c.in-Clear.is (c.late_clearing.ensures picture _ (rw c.in-Clear.is at balance))

pub returns-in-Draw : goal.returns-in-Draw
returns-in-Draw c v stack memory picture balance = drawing_apart (eqb c.in-Draw.field-2 0) (rw c.in-Draw.is at c.requires.0)

pub returns-in-Decimal : goal.returns-in-Decimal
unfolding refusal_of after
returns-in-Decimal c v stack memory picture balance =
    rw c.in-Decimal.is (c.past.ensures v stack ∙ still _ picture c.requires.1 _)

pub returns-in-Store : goal.returns-in-Store
unfolding refusal_of after
returns-in-Store c v stack memory picture balance =
    rw (c.in-Store.is, ← c.up_to.ensures) (c.past-in-Store.ensures v stack ∙ still _ picture c.requires.1 _)

pub returns-in-Fetch : goal.returns-in-Fetch
returns-in-Fetch c v stack memory picture balance = elsewhere refl (rw c.in-Fetch.is at c.requires.0)

pub returns-in-Unlisted : goal.returns-in-Unlisted
unfolding refusal_of after
returns-in-Unlisted c v stack memory picture balance = rw c.in-Unlisted.is (still _ picture c.requires.1 2)

pub returns-in-MachineCode : goal.returns-in-MachineCode
unfolding refusal_of after
returns-in-MachineCode c v stack memory picture balance = rw c.in-MachineCode.is (still _ picture c.requires.1 3)
