-- Each answer by the test or the number that led to it; in the last arm 00EE is quiet.
use mathlib.Core.Path.{◌≡◌, refl}
use lib.Dec.{eqb}
use borrow.Author.Tests.{eq-eqb, ne_eqb}
use Rattle.rules.specs.declared.Op.{Op}
use Rattle.rules.specs.declared.Op.TheVariants.{MachineCode}
use Rattle.rules.proofs.Choices.{choice}
use Rattle.decode.specs.declared.Way.TheVariants as way
use Rattle.decode.proofs.Cases.{On, elsewhere}
use Rattle.decode.proofs.clear_of.Goals as goal

pub returns-then-page-ne0 : goal.returns-then-page-ne0
returns-then-page-ne0 c = rw (ne_eqb c.args.page 0 c.if-page-ne0.true) (λ e. refl)

pub returns-in-224 : goal.returns-in-224
returns-in-224 c = rw (eq-eqb c.args.page 0 c.if-page-ne0.false, c.in-224.is) (λ e. refl)

pub returns-in_default : goal.returns-in_default
returns-in_default c =
    let a = c.args in
    rw (eq-eqb a.page 0 c.if-page-ne0.false, ne_eqb a.lo 0xE0 c.in_default.in_default-own.rest.1)
    (choice (On way.Other (λ (op : Op). op ≡ MachineCode)) (eqb a.lo 0xEE) (λ e. elsewhere refl e) (λ e. refl))
