-- An arm by the number that it matches; the last arm by those that were passed over, since the others take other ways.
use mathlib.Core.Path.{◌≡◌, refl}
use Rattle.rules.specs.declared.Op.{Op}
use Rattle.rules.specs.declared.Op.TheVariants.{Unlisted}
use Rattle.decode.specs.declared.Way.TheVariants as way
use Rattle.decode.proofs.Cases.{elsewhere, on_other}
use Rattle.decode.proofs.store_of.Goals as goal

pub returns-in-51 : goal.returns-in-51
returns-in-51 c = rw c.in-51.is (λ e. refl)

pub returns-in-85 : goal.returns-in-85
returns-in-85 c = rw c.in-85.is (λ e. refl)

pub returns-in_default : goal.returns-in_default
returns-in_default c =
    let a = c.args in
    on_other way.Other (λ (op : Op). op ≡ Unlisted) a.x a.kk
    (λ k e. elsewhere refl e) (λ k e. elsewhere refl e) (λ k e. elsewhere refl e) (λ k e. elsewhere refl e) (λ k e. elsewhere refl e) (λ k e. elsewhere refl e)
    (λ k. absurd (c.in_default.in_default-own.rest.0.1 k)) (λ k. absurd (c.in_default.in_default-own.rest.1 k)) (λ k e. elsewhere refl e) (λ e. refl)
