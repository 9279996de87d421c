-- An arm by the number that it matches; the last arm by the one that was passed over.
use mathlib.Core.Path.{◌≡◌, refl}
use lib.Dec.{eqb}
use borrow.Author.Tests.{ne_eqb}
use Rattle.rules.specs.declared.Op.{Op}
use Rattle.rules.specs.declared.Op.TheVariants.{Plain}
use Rattle.rules.specs.declared.Simple.TheVariants.{SkipUp}
use Rattle.rules.proofs.Choices.{choice}
use Rattle.decode.specs.declared.Way.TheVariants as way
use Rattle.decode.proofs.Cases.{On, elsewhere}
use Rattle.decode.proofs.key_skip_of.Goals as goal

pub returns-in-158 : goal.returns-in-158
returns-in-158 c = rw c.in-158.is (λ e. refl)

pub returns-in_default : goal.returns-in_default
returns-in_default c =
    let a = c.args in
    rw (ne_eqb a.kk 0x9E c.in_default.in_default-own.rest.1) (choice (On way.Plain (λ (op : Op). op ≡ Plain (SkipUp a.x))) (eqb a.kk 0xA1) (λ e. refl) (λ e. elsewhere refl e))
