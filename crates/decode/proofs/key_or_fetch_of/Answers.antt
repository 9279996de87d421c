-- An arm by the number that it matches; the last arm by the one that was passed over, since of the others only one is quiet.
use mathlib.Core.Path.{◌≡◌, refl}
use Rattle.rules.specs.declared.Op.{Op}
use Rattle.rules.specs.declared.Op.TheVariants.{AwaitKey}
use Rattle.decode.specs.declared.Way.TheVariants as way
use Rattle.decode.proofs.Cases.{elsewhere, on_other}
use Rattle.decode.proofs.key_or_fetch_of.Goals as goal

pub returns-in-101 : goal.returns-in-101
returns-in-101 c = rw c.in-101.is (λ e. refl)

pub returns-in_default : goal.returns-in_default
returns-in_default c =
    let a = c.args in
    on_other way.Quiet (λ (op : Op). op ≡ AwaitKey a.x) a.x a.kk
    (λ k e. elsewhere refl e) (λ k e. refl) (λ k e. elsewhere refl e) (λ k e. elsewhere refl e) (λ k e. elsewhere refl e) (λ k e. elsewhere refl e)
    (λ k e. elsewhere refl e) (λ k e. elsewhere refl e) (λ k. absurd (c.in_default.in_default-own.rest.1 k)) (λ e. elsewhere refl e)
