-- What an instruction that is not refused has: room on the stack, an entry there, or its bytes in memory; a number of lit spots that stays in
-- its range; and where it leaves the picture, the number that it leads to is the one that it had.
use mathlib.Core.Path.{◌≡◌}
use mathlib.Core.List.{List}
use Prim.Native.Nat.{ℕ, ◌+◌, ◌≤◌, ◌<◌}
use native.Mathlib.Omega.{arith}
use lib.Dec.{leb, ltb}
use borrow.Author.Tests.{leb-true, ltb-true}
use Rattle.rules.specs.declared.Machine.{Machine}
use Rattle.rules.specs.declared.Op.{Op}
use Rattle.rules.specs.declared.Op.TheVariants.{Call, Return, Clear, Draw, Decimal, Store, Fetch}
use Rattle.rules.specs.State.{up_to}
use Rattle.rules.specs.Picture.{drawn}
use Rattle.rules.specs.Memory.{part}
use Rattle.rules.specs.Step.{refusal_of, lit_refusal, after, picture_after, reach, column, row}
use Rattle.rules.proofs.Choices.{passed}
use Rattle.rules.proofs.Parts.{zeroes}
use Rattle.rules.proofs.Follow.{past_fits}
use Rattle.rules.proofs.Still.{after_lit, counted_same}
use Rattle.picture.specs.declared.Spots.{Spots}
use Rattle.lit.specs.Balance.{Balance}
use Rattle.act.specs.Became.{acted, Became}

module _ (op : Op) (m : Machine) (allowed : refusal_of op m ≡ 0) (most : m.end ≤ 4096) where
  pub call_room : (a : ℕ) → op ≡ Call a → m.depth < 12
  unfolding refusal_of
  call_room a e = ltb-true m.depth 12 (passed (ltb m.depth 12) 3 0 (rw e at allowed)).0

  pub return_entry : op ≡ Return → 0 < m.depth
  unfolding refusal_of
  return_entry e = ltb-true 0 m.depth (passed (ltb 0 m.depth) 4 0 (rw e at allowed)).0

  pub draw_reach : (x y n : ℕ) → op ≡ Draw x y n → reach m n ≤ 4096
  unfolding refusal_of
  draw_reach x y n e =
      let below = leb-true (reach m n) m.end (passed (leb (reach m n) m.end) 5 0 (rw e at allowed)).0 in
      omega (arith, below, most)

  pub decimal_reach : (x : ℕ) → op ≡ Decimal x → m.i + 3 ≤ 4096
  unfolding refusal_of
  decimal_reach x e = omega (arith, past_fits m 3 (omega arith) (rw e at allowed), most)

  pub store_reach : (x : ℕ) → op ≡ Store x → m.i + up_to x ≤ 4096
  unfolding refusal_of
  store_reach x e = omega (arith, past_fits m (up_to x) (omega arith) (rw e at allowed), most)

  pub fetch_reach : (x : ℕ) → op ≡ Fetch x → m.i + up_to x ≤ 4096
  unfolding refusal_of
  fetch_reach x e = omega (arith, past_fits m (up_to x) (omega arith) (rw e at allowed), most)

module _ (op : Op) (m : Machine) (mem pic : List ℕ) (passes : lit_refusal m.lit pic (picture_after op m mem pic) ≡ 0) where
  pub clear_passes : op ≡ Clear → lit_refusal m.lit pic (zeroes 256) ≡ 0
  unfolding after
  clear_passes e = rw e at passes

  pub draw_passes : (x y n : ℕ) → op ≡ Draw x y n → lit_refusal m.lit pic (drawn (part mem m.i n) (column m x) (row m y) pic) ≡ 0
  unfolding after
  draw_passes x y n e = rw e at passes

pub clear_balance : (op : Op) (m : Machine) (mem pic : List ℕ) (s : Spots) → Balance s pic (picture_after op m mem pic) → op ≡ Clear
    → Balance s pic (zeroes 256)
unfolding after
clear_balance op m mem pic s balance e = rw e at balance

-- where the picture stays, so does the number
pub still : (op : Op) (keys random : ℕ) (m : Machine) (mem pic : List ℕ) {m' : Machine} {mem' pic' : List ℕ}
    → (after op keys random m mem pic).picture ≡ pic → Became (after op keys random m mem pic) m' mem' pic'
    → Became (acted op keys random m mem pic) m' mem' pic'
still op keys random m mem pic same b =
    rw (counted_same (record { machine = m; memory = mem; picture = pic }) (after op keys random m mem pic) (after_lit op keys random m mem pic) same) b
