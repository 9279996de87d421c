-- An arm by the number that it matches; the last arm by the numbers that were passed over.
use mathlib.Core.Path.{◌≡◌, refl}
use lib.Dec.{eqb}
use borrow.Author.Tests.{ne_eqb}
use Rattle.rules.specs.declared.Op.{Op}
use Rattle.rules.proofs.Choices.{choice}
use Rattle.decode.specs.declared.Way.TheVariants as way
use Rattle.decode.specs.Ways.{way_of}
use Rattle.decode.proofs.other_way.Goals as goal

pub returns-in-7 : goal.returns-in-7
returns-in-7 c x = rw c.in-7.is

pub returns-in-10 : goal.returns-in-10
returns-in-10 c x = rw c.in-10.is

pub returns-in-21 : goal.returns-in-21
returns-in-21 c x = rw c.in-21.is

pub returns-in-24 : goal.returns-in-24
returns-in-24 c x = rw c.in-24.is

pub returns-in-30 : goal.returns-in-30
returns-in-30 c x = rw c.in-30.is

pub returns-in-41 : goal.returns-in-41
returns-in-41 c x = rw c.in-41.is

pub returns-in-101 : goal.returns-in-101
returns-in-101 c x = rw c.in-101.is

pub returns-in_default : goal.returns-in_default
returns-in_default c x =
    let kk = c.args.kk in
    let r = c.in_default.in_default-own.rest in
    let s = r.0.0.0 in
    simp (ne_eqb _ _ r.1, ne_eqb _ _ r.0.1, ne_eqb _ _ r.0.0.1, ne_eqb _ _ s.1, ne_eqb _ _ s.0.1, ne_eqb _ _ s.0.0.1, ne_eqb _ _ s.0.0.0.1)
    (choice (λ (op : Op). way.Other ≡ way_of op) (eqb kk 0x33) refl (choice (λ (op : Op). way.Other ≡ way_of op) (eqb kk 0x55) refl refl))
