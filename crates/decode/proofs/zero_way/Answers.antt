-- Each answer by the test or the number that led to it; 00E0 takes the way that is left, like a call into machine language.
use mathlib.Core.Path.{◌≡◌, refl}
use lib.Dec.{eqb}
use borrow.Author.Tests.{eq-eqb, ne_eqb}
use Rattle.rules.specs.declared.Op.{Op}
use Rattle.rules.proofs.Choices.{choice}
use Rattle.decode.specs.declared.Way.TheVariants as way
use Rattle.decode.specs.Ways.{way_of}
use Rattle.decode.proofs.zero_way.Goals as goal

pub returns-then-hi-ne0 : goal.returns-then-hi-ne0
returns-then-hi-ne0 c = rw (ne_eqb c.args.hi 0 c.if-hi-ne0.true)

pub returns-in-238 : goal.returns-in-238
returns-in-238 c = rw (eq-eqb c.args.hi 0 c.if-hi-ne0.false, c.in-238.is)

pub returns-in_default : goal.returns-in_default
returns-in_default c =
    let a = c.args in
    rw (eq-eqb a.hi 0 c.if-hi-ne0.false, ne_eqb a.lo 0xEE c.in_default.in_default-own.rest.1) (choice (λ (op : Op). way.Other ≡ way_of op) (eqb a.lo 0xE0) refl refl)
