-- By the look, where that is enough; else an arm by the digit that it matches, and what its callee ensures. No digit is left for the last arm.
use mathlib.Core.Path.{◌≡◌, sym, ◌∙◌}
use mathlib.Core.Bool.{false}
use Prim.Native.Nat.{◌/◌, ◌%◌}
use native.Mathlib.Omega.{arith}
use borrow.Author.Tests.{ne_eqb}
use Rattle.rules.specs.Number.{is_one}
use Rattle.rules.specs.Instruction.{decode}
use Rattle.decode.specs.Ways.{plain_digits}
use Rattle.decode.proofs.Cases.{told, left, sum_way}
use Rattle.decode.proofs.way_of.Goals as goal

pub is_plain-requires : goal.is_plain-requires
unfolding decode
is_plain-requires c = (omega (arith, c.ranges.hi), omega arith)

pub returns-then-is_plain : goal.returns-then-is_plain
unfolding decode
returns-then-is_plain c =
    let a = c.args in
    told a.edition a.hi (a.hi % 16) (a.lo / 16) (a.lo % 16) a.lo _ (a.hi / 16) (omega (arith, c.ranges.hi)) (omega arith)
    (sym c.is_plain.ensures ∙ c.if-is_plain.true)

pub returns-in-0 : goal.returns-in-0
unfolding decode
returns-in-0 c = rw c.in-0.is c.zero_way.ensures

pub returns-in-2 : goal.returns-in-2
unfolding decode
returns-in-2 c = rw c.in-2.is

pub returns-in-5 : goal.returns-in-5
unfolding decode
returns-in-5 c = rw c.in-5.is (c.skip_way.ensures _)

-- 8XYN that is not listed
pub returns-in-8 : goal.returns-in-8
unfolding decode
returns-in-8 c =
    let a = c.args in
    let dark = sym c.is_plain.ensures ∙ c.if-is_plain.false in
    rw c.in-8.is (sym (rw (rw c.in-8.is at dark) at (sum_way a.edition (a.hi % 16) (a.lo / 16) (a.lo % 16) (omega arith))))

pub returns-in-9 : goal.returns-in-9
unfolding decode
returns-in-9 c = rw c.in-9.is (c.skip_way-in-9.ensures _)

pub returns-in-13 : goal.returns-in-13
unfolding decode
returns-in-13 c = rw c.in-13.is c.draw_way.ensures

pub returns-in-14 : goal.returns-in-14
unfolding decode
returns-in-14 c = rw c.in-14.is (c.key_way.ensures _)

pub returns-in-15 : goal.returns-in-15
unfolding decode
returns-in-15 c = rw c.in-15.is (c.other_way.ensures _)

pub returns-in_default : goal.returns-in_default
returns-in_default c =
    let r = c.in_default.in_default-own.rest in
    let q = r.0.0.0 in
    let d = c.args.hi / 16 in
    let dark : is_one d plain_digits ≡ false = rw (ne_eqb d 8 q.0.1) at (sym c.is_plain.ensures ∙ c.if-is_plain.false) in
    absurd (left d (omega (arith, c.ranges.hi)) dark q.0.0.0.0.1 q.0.0.0.1 q.0.0.1 q.0.1 q.1 r.0.0.1 r.0.1 r.1)
