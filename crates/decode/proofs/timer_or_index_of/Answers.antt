-- An arm by the number that it matches; the last arm by those that were passed over, since of the others only one is plain.
use mathlib.Core.Path.{◌≡◌, refl}
use Rattle.rules.specs.declared.Op.{Op}
use Rattle.rules.specs.declared.Op.TheVariants.{Plain}
use Rattle.rules.specs.declared.Simple.TheVariants.{Digit}
use Rattle.decode.specs.declared.Way.TheVariants as way
use Rattle.decode.proofs.Cases.{elsewhere, on_other}
use Rattle.decode.proofs.timer_or_index_of.Goals as goal

pub returns-in-7 : goal.returns-in-7
returns-in-7 c = rw c.in-7.is (λ e. refl)

pub returns-in-21 : goal.returns-in-21
returns-in-21 c = rw c.in-21.is (λ e. refl)

pub returns-in-24 : goal.returns-in-24
returns-in-24 c = rw c.in-24.is (λ e. refl)

pub returns-in-30 : goal.returns-in-30
returns-in-30 c = rw c.in-30.is (λ e. refl)

pub returns-in_default : goal.returns-in_default
returns-in_default c =
    let a = c.args in
    let r = c.in_default.in_default-own.rest in
    on_other way.Plain (λ (op : Op). op ≡ Plain (Digit a.x)) a.x a.kk
    (λ k. absurd (r.0.0.0.1 k)) (λ k e. elsewhere refl e) (λ k. absurd (r.0.0.1 k)) (λ k. absurd (r.0.1 k)) (λ k. absurd (r.1 k)) (λ k e. refl)
    (λ k e. elsewhere refl e) (λ k e. elsewhere refl e) (λ k e. elsewhere refl e) (λ e. elsewhere refl e)
