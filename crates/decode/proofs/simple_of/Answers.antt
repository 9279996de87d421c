-- An arm by the digit that it matches, and what its callee ensures. Of the digits that are left for the last arm only 15 has plain instructions.
use mathlib.Core.Path.{◌≡◌, refl}
use Prim.Native.Nat.{ℕ, ◌/◌, ◌%◌}
use lib.Dec.{eqb}
use borrow.Author.Tests.{ne_eqb}
use Rattle.rules.specs.declared.Op.{Op}
use Rattle.rules.specs.declared.Op.TheVariants.{Plain, Draw, Unlisted}
use Rattle.rules.specs.declared.Simple.{Simple}
use Rattle.rules.specs.Number.{pick}
use Rattle.rules.specs.Instruction.{decode}
use Rattle.rules.proofs.Choices.{choice}
use Rattle.decode.specs.declared.Way.{Way}
use Rattle.decode.specs.declared.Way.TheVariants as way
use Rattle.decode.proofs.Cases.{On, elsewhere, on_zero, on_skip}
use Rattle.decode.proofs.simple_of.Goals as goal

-- a skip that is listed where its last digit is 0
skips : (n : ℕ) (s : Simple) → On way.Plain (λ (op : Op). op ≡ Plain s) (pick (eqb n 0) (Plain s) Unlisted)
skips n s = on_skip way.Plain (λ (op : Op). op ≡ Plain s) n s (λ e. refl) (λ e. elsewhere refl e)

drawing : (x y n : ℕ) (s : Simple) → On way.Plain (λ (op : Op). op ≡ Plain s) (Draw x y n)
drawing x y n s = choice (λ (v : Way). v ≡ way.Plain → Draw x y n ≡ Plain s) (eqb n 0) (λ e. elsewhere refl e) (λ e. elsewhere refl e)

pub returns-in-1 : goal.returns-in-1
unfolding decode
returns-in-1 c = rw c.in-1.is (λ edition e. refl)

pub returns-in-3 : goal.returns-in-3
unfolding decode
returns-in-3 c = rw c.in-3.is (λ edition e. refl)

pub returns-in-4 : goal.returns-in-4
unfolding decode
returns-in-4 c = rw c.in-4.is (λ edition e. refl)

pub returns-in-5 : goal.returns-in-5
unfolding decode
returns-in-5 c = rw c.in-5.is (λ edition. skips (c.args.lo % 16) _)

pub returns-in-6 : goal.returns-in-6
unfolding decode
returns-in-6 c = rw c.in-6.is (λ edition e. refl)

pub returns-in-7 : goal.returns-in-7
unfolding decode
returns-in-7 c = rw c.in-7.is (λ edition e. refl)

pub returns-in-8 : goal.returns-in-8
unfolding decode
returns-in-8 c = rw c.in-8.is c.sum_of.ensures

pub returns-in-9 : goal.returns-in-9
unfolding decode
returns-in-9 c = rw c.in-9.is (λ edition. skips (c.args.lo % 16) _)

pub returns-in-10 : goal.returns-in-10
unfolding decode
returns-in-10 c = rw c.in-10.is (λ edition e. refl)

pub returns-in-11 : goal.returns-in-11
unfolding decode
returns-in-11 c = rw c.in-11.is (λ edition e. refl)

pub returns-in-12 : goal.returns-in-12
unfolding decode
returns-in-12 c = rw c.in-12.is (λ edition e. refl)

pub returns-in-14 : goal.returns-in-14
unfolding decode
returns-in-14 c = rw c.in-14.is (λ edition. c.key_skip_of.ensures)

pub returns-in_default : goal.returns-in_default
unfolding decode
returns-in_default c edition =
    let a = c.args in
    let d = a.hi / 16 in
    let P : Op → Type 0 = λ op. op ≡ Plain c.timer_or_index_of.result in
    let r = c.in_default.in_default-own.rest in
    let s = r.0.0.0.0.0.0 in
    rw (
      ne_eqb d 0x1 s.0.0.0.0.0.1,
      ne_eqb d 0x3 s.0.0.0.0.1,
      ne_eqb d 0x4 s.0.0.0.1,
      ne_eqb d 0x5 s.0.0.1,
      ne_eqb d 0x6 s.0.1,
      ne_eqb d 0x7 s.1,
      ne_eqb d 0x8 r.0.0.0.0.0.1,
      ne_eqb d 0x9 r.0.0.0.0.1,
      ne_eqb d 0xA r.0.0.0.1,
      ne_eqb d 0xB r.0.0.1,
      ne_eqb d 0xC r.0.1,
      ne_eqb d 0xE r.1,
    )
    (choice (On way.Plain P) (eqb d 0x0) (on_zero way.Plain P a.hi a.lo (λ e. elsewhere refl e) (λ e. elsewhere refl e) (λ e. elsewhere refl e))
    (choice (On way.Plain P) (eqb d 0x2) (λ e. elsewhere refl e)
    (choice (On way.Plain P) (eqb d 0xD) (drawing (a.hi % 16) (a.lo / 16) (a.lo % 16) _)
    c.timer_or_index_of.ensures)))
