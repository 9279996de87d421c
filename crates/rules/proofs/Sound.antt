-- A machine in range is sound; and one whose numbers are in range is in range as a whole where it is sound.
use mathlib.Core.Path.{◌≡◌, refl, ap, ap₂, ◌∙◌}
use mathlib.Core.Bool.{Bool, true, false, ◌&&◌, ◌||◌, and-eq-true_iff}
use mathlib.Core.List.{List, [], ◌∷◌}
use Prim.Native.Nat.{ℕ, zero, suc, ◌-◌}
use native.Mathlib.Omega.{arith}
use lib.ListN.{drop, length, length-drop}
use lib.Dec.{eqb, leb}
use borrow.Author.Tests.{leb-true, eqb-true, le-leb}
use Rattle.rules.specs.declared.Machine.{Machine}
use Rattle.rules.specs.State.{zeros, held_sound, end_sound, sound}
use Rattle.rules.specs.Typed.{TypedMachine}
use Rattle.rules.proofs.Good.{GoodEnd, GoodMachine}
use Rattle.rules.proofs.Choices.{and_both}
use Rattle.rules.proofs.Parts.{zeroes}

zeros_all : (n : ℕ) → zeros (zeroes n) ≡ true
zeros_all zero = refl
zeros_all (suc n) = zeros_all n

-- with an end in use
pub good_sound : (m : Machine) → GoodMachine m → end_sound m.end ≡ true → sound m ≡ true
good_sound m g e =
    and_both
    (and_both
    (and_both (and_both (le-leb m.depth 12 g.calls.most) (rw g.calls.unused (zeros_all (12 - m.depth)))) g.wait)
    (le-leb m.lit 2048 g.lit))
    e

-- an end in use is in range
pub end_good : (end : ℕ) → end_sound end ≡ true → GoodEnd end
end_good end e = go (eqb end 1696) refl e
  where
    go : (t : Bool) → eqb end 1696 ≡ t → (t || eqb end 4096) ≡ true → GoodEnd end
    go true s e = rw (eqb-true end 1696 s) (record { least = omega arith; most = omega arith })
    go false s e = rw (eqb-true end 4096 e) (record { least = omega arith; most = omega arith })

-- what makes a state sound, test by test
pub record Sound (m : Machine) : Type 0 where
  pub depth : leb m.depth 12 ≡ true
  pub clear : zeros (drop m.depth m.stack) ≡ true
  pub held : held_sound m.wait ≡ true
  pub lit : leb m.lit 2048 ≡ true
  pub end : end_sound m.end ≡ true

pub sound_parts : (m : Machine) → sound m ≡ true → Sound m
sound_parts m e =
    let depth = leb m.depth 12 in
    let clear = zeros (drop m.depth m.stack) in
    let held = held_sound m.wait in
    let four = (and-eq-true_iff (depth && clear && held && leb m.lit 2048) (end_sound m.end)).0 e in
    let three = (and-eq-true_iff (depth && clear && held) (leb m.lit 2048)).0 four.0 in
    let two = (and-eq-true_iff (depth && clear) held).0 three.0 in
    let one = (and-eq-true_iff depth clear).0 two.0 in
    record { depth = one.0; clear = one.1; held = two.1; lit = three.1; end = four.1 }

-- a list that is clear is as many zeros as it is long
pub zeros_are : (l : List ℕ) → zeros l ≡ true → l ≡ zeroes (length l)
zeros_are [] e = refl
zeros_are (x ∷ xs) e = let s = (and-eq-true_iff (eqb x 0) (zeros xs)).0 e in ap₂ ◌∷◌ (eqb-true x 0 s.0) (zeros_are xs s.1)

pub sound_good : (m : Machine) → TypedMachine m → sound m ≡ true → GoodMachine m
sound_good m t e =
    let s = sound_parts m e in
    let left : length (drop m.depth m.stack) ≡ 12 - m.depth = simp (length-drop, t.entries) in
    let unused = zeros_are (drop m.depth m.stack) s.clear ∙ ap zeroes left in
    record {
      v = record { size = t.vs; below = t.v };
      i = t.i;
      pc = t.pc;
      calls = record { size = t.entries; below = t.stack; most = leb-true m.depth 12 s.depth; unused = unused };
      timers = record { delay = t.delay; tone = t.tone };
      wait = s.held;
      lit = leb-true m.lit 2048 s.lit;
      end = end_good m.end s.end;
    }
