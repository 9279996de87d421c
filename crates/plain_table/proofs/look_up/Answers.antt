-- A line by the digits that its test names; what is left by all the tests that were passed over.
use mathlib.Core.Path.{◌≡◌}
use mathlib.Core.Bool.{true, false, ◌&&◌, and-eq-true_iff}
use Prim.Native.Nat.{ℕ, zero, suc, ◌/◌, ◌≤◌}
use native.Mathlib.Omega.{arith}
use lib.Dec.{eqb}
use borrow.Author.Tests.{eqb-true, eq-eqb}
use Rattle.rules.specs.Instruction.{decode}
use Rattle.plain_table.proofs.look_up.Goals as goal

-- a number that is none of those below n is at least n
abbrev None : ℕ → ℕ → Type 0
None zero d = Unit {0}
None (suc n) d = None n d × (d ≡ n → ⊥)

none : (n d : ℕ) → None n d → n ≤ d
none zero d h = omega arith
none (suc n) d h = let l = none n d h.0 in omega arith

both : (a k b l : ℕ) → (eqb a k && eqb b l) ≡ true → (a ≡ k) × (b ≡ l)
both a k b l t = let p = (and-eq-true_iff (eqb a k) (eqb b l)).0 t in (eqb-true a k p.0, eqb-true b l p.1)

-- where the first of two tests holds, the second is what fails
other : (a k b l : ℕ) → a ≡ k → (eqb a k && eqb b l) ≡ false → eqb b l ≡ false
other a k b l e f = rw (eq-eqb a k e) at f

pub returns-then-d-eq1 : goal.returns-then-d-eq1
unfolding decode
returns-then-d-eq1 c = rw (c.if-d-eq1.true, c.from_be_bytes-mmm.ensures)

pub returns-then-d-eq11 : goal.returns-then-d-eq11
unfolding decode
returns-then-d-eq11 c = rw (c.if-d-eq11.true, c.from_be_bytes-mmm.ensures)

pub returns-then-d-eq2 : goal.returns-then-d-eq2
unfolding decode
returns-then-d-eq2 c = rw (c.if-d-eq2.true, c.from_be_bytes-mmm.ensures)

pub returns-then-hi-lo : goal.returns-then-hi-lo
unfolding decode
returns-then-hi-lo c = let (a, b) = both c.args.hi 0 c.args.lo 238 c.if-hi-lo.true in rw (a, b)

pub returns-then-d-eq3 : goal.returns-then-d-eq3
unfolding decode
returns-then-d-eq3 c = rw c.if-d-eq3.true

pub returns-then-d-eq4 : goal.returns-then-d-eq4
unfolding decode
returns-then-d-eq4 c = rw c.if-d-eq4.true

pub returns-then-d-eq5 : goal.returns-then-d-eq5
unfolding decode
returns-then-d-eq5 c = rw c.if-d-eq5.true c.with_last_0.ensures

pub returns-then-d-eq9 : goal.returns-then-d-eq9
unfolding decode
returns-then-d-eq9 c = rw c.if-d-eq9.true c.with_last_0-then-d-eq9.ensures

pub returns-then-d-eq14 : goal.returns-then-d-eq14
unfolding decode
returns-then-d-eq14 c = rw c.if-d-eq14.true c.skip_on_key.ensures

pub returns-then-d-eq6 : goal.returns-then-d-eq6
unfolding decode
returns-then-d-eq6 c = rw c.if-d-eq6.true

pub returns-then-d-eq12 : goal.returns-then-d-eq12
unfolding decode
returns-then-d-eq12 c = rw c.if-d-eq12.true

pub returns-then-d-eq7 : goal.returns-then-d-eq7
unfolding decode
returns-then-d-eq7 c = rw c.if-d-eq7.true

pub returns-then-d-eq8 : goal.returns-then-d-eq8
unfolding decode
returns-then-d-eq8 c = rw c.if-d-eq8.true c.with_vy.ensures

pub returns-then-d-lo : goal.returns-then-d-lo
unfolding decode
returns-then-d-lo c = let (a, b) = both (c.args.hi / 16) 15 c.args.lo 7 c.if-d-lo.true in rw (a, b)

pub returns-then-d-lo-2 : goal.returns-then-d-lo-2
unfolding decode
returns-then-d-lo-2 c = let (a, b) = both (c.args.hi / 16) 15 c.args.lo 10 c.if-d-lo-2.true in rw (a, b)

pub returns-then-d-lo-3 : goal.returns-then-d-lo-3
unfolding decode
returns-then-d-lo-3 c = let (a, b) = both (c.args.hi / 16) 15 c.args.lo 21 c.if-d-lo-3.true in rw (a, b)

pub returns-then-d-lo-4 : goal.returns-then-d-lo-4
unfolding decode
returns-then-d-lo-4 c = let (a, b) = both (c.args.hi / 16) 15 c.args.lo 24 c.if-d-lo-4.true in rw (a, b)

pub returns-then-d-eq10 : goal.returns-then-d-eq10
unfolding decode
returns-then-d-eq10 c = rw (c.if-d-eq10.true, c.from_be_bytes-mmm.ensures)

pub returns-then-d-lo-5 : goal.returns-then-d-lo-5
unfolding decode
returns-then-d-lo-5 c = let (a, b) = both (c.args.hi / 16) 15 c.args.lo 30 c.if-d-lo-5.true in rw (a, b)

pub returns-then-d-lo-6 : goal.returns-then-d-lo-6
unfolding decode
returns-then-d-lo-6 c = let (a, b) = both (c.args.hi / 16) 15 c.args.lo 41 c.if-d-lo-6.true in rw (a, b)

pub returns-then-d-lo-7 : goal.returns-then-d-lo-7
unfolding decode
returns-then-d-lo-7 c = let (a, b) = both (c.args.hi / 16) 15 c.args.lo 51 c.if-d-lo-7.true in rw (a, b)

pub returns-then-d-lo-8 : goal.returns-then-d-lo-8
unfolding decode
returns-then-d-lo-8 c = let (a, b) = both (c.args.hi / 16) 15 c.args.lo 85 c.if-d-lo-8.true in rw (a, b)

pub returns-then-d-lo-9 : goal.returns-then-d-lo-9
unfolding decode
returns-then-d-lo-9 c = let (a, b) = both (c.args.hi / 16) 15 c.args.lo 101 c.if-d-lo-9.true in rw (a, b)

pub returns-then-hi-lo-2 : goal.returns-then-hi-lo-2
unfolding decode
returns-then-hi-lo-2 c = let (a, b) = both c.args.hi 0 c.args.lo 224 c.if-hi-lo-2.true in rw (a, b)

pub returns-then-d-eq13 : goal.returns-then-d-eq13
unfolding decode
returns-then-d-eq13 c = rw c.if-d-eq13.true

pub returns-then-d-eq0 : goal.returns-then-d-eq0
unfolding decode
returns-then-d-eq0 c = rw (c.if-d-eq0.true, c.if-hi-lo-2.false, c.if-hi-lo.false)

pub returns : goal.returns
unfolding decode
returns c =
    let lo = c.args.lo in
    let d = c.args.hi / 16 in
    let e : d ≡ 15 = omega (arith, c.ranges.hi, none 15 d (((((((((((((((tt, c.if-d-eq0.false), c.if-d-eq1.false), c.if-d-eq2.false), c.if-d-eq3.false), c.if-d-eq4.false), c.if-d-eq5.false), c.if-d-eq6.false), c.if-d-eq7.false), c.if-d-eq8.false), c.if-d-eq9.false), c.if-d-eq10.false), c.if-d-eq11.false), c.if-d-eq12.false), c.if-d-eq13.false), c.if-d-eq14.false)) in
    rw (e, other d 15 lo 7 e c.if-d-lo.false, other d 15 lo 10 e c.if-d-lo-2.false, other d 15 lo 21 e c.if-d-lo-3.false, other d 15 lo 24 e c.if-d-lo-4.false, other d 15 lo 30 e c.if-d-lo-5.false, other d 15 lo 41 e c.if-d-lo-6.false, other d 15 lo 51 e c.if-d-lo-7.false, other d 15 lo 85 e c.if-d-lo-8.false, other d 15 lo 101 e c.if-d-lo-9.false)
