-- An arm by the number that it matches, and what the edition lists there; the last arm by the numbers that were passed over.
use mathlib.Core.Path.{◌≡◌, refl}
use lib.Dec.{eqb}
use borrow.Author.Tests.{ne_eqb}
use Rattle.rules.specs.declared.Edition.{Edition}
use Rattle.rules.specs.declared.Op.{Op}
use Rattle.rules.specs.declared.Op.TheVariants.{Plain}
use Rattle.rules.specs.declared.Simple.{Simple}
use Rattle.rules.specs.declared.Simple.TheVariants.{Double}
use Rattle.rules.specs.Instruction.{in_second}
use Rattle.rules.proofs.Choices.{choice}
use Rattle.decode.specs.declared.Way.TheVariants as way
use Rattle.decode.proofs.Cases.{On, elsewhere, in_second_law}
use Rattle.decode.proofs.sum_of.Goals as goal

-- an operation that the first edition does not list
second : (s : Simple) (edition : Edition) → On way.Plain (λ (op : Op). op ≡ Plain s) (in_second edition (Plain s))
second s edition = in_second_law (On way.Plain (λ (op : Op). op ≡ Plain s)) edition s (λ e. refl) (λ e. elsewhere refl e)

pub returns-in-0 : goal.returns-in-0
returns-in-0 c = rw c.in-0.is (λ edition e. refl)

pub returns-in-1 : goal.returns-in-1
returns-in-1 c = rw c.in-1.is (λ edition e. refl)

pub returns-in-2 : goal.returns-in-2
returns-in-2 c = rw c.in-2.is (λ edition e. refl)

pub returns-in-3 : goal.returns-in-3
returns-in-3 c = rw c.in-3.is (second _)

pub returns-in-4 : goal.returns-in-4
returns-in-4 c = rw c.in-4.is (λ edition e. refl)

pub returns-in-5 : goal.returns-in-5
returns-in-5 c = rw c.in-5.is (λ edition e. refl)

pub returns-in-6 : goal.returns-in-6
returns-in-6 c = rw c.in-6.is (second _)

pub returns-in-7 : goal.returns-in-7
returns-in-7 c = rw c.in-7.is (second _)

pub returns-in_default : goal.returns-in_default
returns-in_default c edition =
    let a = c.args in
    let double = Double a.x a.y in
    let r = c.in_default.in_default-own.rest in
    let s = r.0.0.0.0 in
    simp (ne_eqb _ _ r.1, ne_eqb _ _ r.0.1, ne_eqb _ _ r.0.0.1, ne_eqb _ _ r.0.0.0.1, ne_eqb _ _ s.1, ne_eqb _ _ s.0.1, ne_eqb _ _ s.0.0.1, ne_eqb _ _ s.0.0.0.1)
    (choice (On way.Plain (λ (op : Op). op ≡ Plain double)) (eqb a.n 0xE) (second double edition) (λ e. elsewhere refl e))
