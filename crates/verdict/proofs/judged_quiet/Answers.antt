-- Each arm is the definition's clause for the instruction that was matched, by the test that led there; a quiet one leaves the picture, and
-- with it the number in its range.
use mathlib.Core.Path.{◌≡◌, refl, sym, ◌∙◌}
use mathlib.Core.List.{List}
use Prim.Native.Nat.{ℕ, ◌≤◌}
use native.Mathlib.Omega.{arith}
use lib.Dec.{eqb}
use borrow.Author.Tests.{lt-ltb, le-ltb, le-leb}
use Rattle.rules.specs.declared.Machine.{Machine}
use Rattle.rules.specs.declared.Op.{Op}
use Rattle.rules.specs.Number.{or_later}
use Rattle.rules.specs.Step.{refusal_of, lit_refusal, picture_after}
use Rattle.rules.proofs.Choices.{no_later}
use Rattle.rules.proofs.Counted.{same_passes}
use Rattle.rules.proofs.Good.{Bytes}
use Rattle.parts.specs.Whole.{whole}
use Rattle.decode.specs.declared.Way.TheVariants as way
use Rattle.decode.specs.Ways.{way_of}
use Rattle.decode.proofs.Cases.{elsewhere, no_rows}
use Rattle.transfers.proofs.Quiet.{quiet_leaves}
use Rattle.verdict.proofs.judged_quiet.Goals as goal

-- a quiet instruction leaves the picture, so the late 10 does not occur after its own refusal
settled : (op : Op) (m : Machine) (memory picture : List ℕ) → (way_of op ≡ way.Quiet) × (m.lit ≤ 2048) → Bytes 256 picture
    → (n : ℕ) → n ≡ refusal_of op m → n ≡ or_later (refusal_of op m) (lit_refusal m.lit picture (picture_after op m memory picture))
settled op m memory picture asked g n e =
    let stays = (quiet_leaves op m memory picture asked.0 g).stays 0 0 in
    e ∙ sym (no_later (refusal_of op m) _ (rw stays (same_passes m.lit picture asked.1)))

pub returns-then-c-lt-STACK : goal.returns-then-c-lt-STACK
unfolding refusal_of
returns-then-c-lt-STACK c v stack memory picture g =
    settled c.args.op (whole c.args.c v stack) memory picture c.requires g 0 (rw (c.in-Call.is, lt-ltb _ 12 c.if-c-lt-STACK.true))

pub returns-then-c-gt0 : goal.returns-then-c-gt0
unfolding refusal_of
returns-then-c-gt0 c v stack memory picture g =
    settled c.args.op (whole c.args.c v stack) memory picture c.requires g 0 (rw (c.in-Return.is, lt-ltb 0 _ c.if-c-gt0.true))

pub returns-in-Plain : goal.returns-in-Plain
returns-in-Plain c v stack memory picture g = elsewhere refl (rw c.in-Plain.is at c.requires.0)

pub returns-in-AwaitKey : goal.returns-in-AwaitKey
unfolding refusal_of
returns-in-AwaitKey c v stack memory picture g = settled c.args.op (whole c.args.c v stack) memory picture c.requires g 0 (rw c.in-AwaitKey.is)

pub returns-else-c-lt-STACK : goal.returns-else-c-lt-STACK
unfolding refusal_of
returns-else-c-lt-STACK c v stack memory picture g =
    settled c.args.op (whole c.args.c v stack) memory picture c.requires g 4 (rw (c.in-Call.is, le-ltb _ 12 c.if-c-lt-STACK.false))

pub returns-else-c-gt0 : goal.returns-else-c-gt0
unfolding refusal_of
returns-else-c-gt0 c v stack memory picture g =
    settled c.args.op (whole c.args.c v stack) memory picture c.requires g 5 (rw (c.in-Return.is, le-ltb 0 _ c.if-c-gt0.false))

pub returns-in-Clear : goal.returns-in-Clear
returns-in-Clear c v stack memory picture g = elsewhere refl (rw c.in-Clear.is at c.requires.0)

-- no rows need no memory
pub returns-in-Draw : goal.returns-in-Draw
unfolding refusal_of
returns-in-Draw c v stack memory picture g =
    let is = c.in-Draw.is in
    let none = no_rows (eqb c.in-Draw.field-2 0) (rw is at c.requires.0) in
    settled c.args.op (whole c.args.c v stack) memory picture c.requires g 0 (rw (is, none, le-leb 0 c.args.c.end (omega arith)))

pub returns-in-Decimal : goal.returns-in-Decimal
returns-in-Decimal c v stack memory picture g = elsewhere refl (rw c.in-Decimal.is at c.requires.0)

pub returns-in-Store : goal.returns-in-Store
returns-in-Store c v stack memory picture g = elsewhere refl (rw c.in-Store.is at c.requires.0)

pub returns-in-Fetch : goal.returns-in-Fetch
unfolding refusal_of
returns-in-Fetch c v stack memory picture g =
    settled c.args.op (whole c.args.c v stack) memory picture c.requires g _ (rw (c.in-Fetch.is, ← c.up_to.ensures) (c.past.ensures v stack))

pub returns-in-Unlisted : goal.returns-in-Unlisted
returns-in-Unlisted c v stack memory picture g = elsewhere refl (rw c.in-Unlisted.is at c.requires.0)

pub returns-in-MachineCode : goal.returns-in-MachineCode
returns-in-MachineCode c v stack memory picture g = elsewhere refl (rw c.in-MachineCode.is at c.requires.0)
