-- The proofs of what Editions claims.
use mathlib.Core.Path.{◌≡◌, refl, ◌∙◌}
use mathlib.Core.Bool.{Bool, true, false}
use Prim.Native.Nat.{ℕ, ◌/◌, ◌%◌}
use lib.Dec.{eqb}
use borrow.Author.Tests.{eqb-true}
use Rattle.rules.specs.declared.Edition.TheVariants.{First, Second}
use Rattle.rules.specs.declared.Action.TheVariants.{Step, Tick}
use Rattle.rules.specs.declared.Op.{Op}
use Rattle.rules.specs.declared.Op.TheVariants.{Unlisted}
use Rattle.rules.specs.Number.{pick}
use Rattle.rules.specs.State.{Chosen, chosen}
use Rattle.rules.specs.Instruction.{sum_op, decode}
use Rattle.rules.specs.Record.{action_at}
use Rattle.rules.specs.World.{Answer, board_of}
use Rattle.rules.specs.Load.{load, load_refusal}
use Rattle.rules.specs.Call.{stepped, ticked, undone, redone, next_record}
use Rattle.rules.specs.Editions.{sum_before, is_added, added, LoadChooses, ChosenKept, FirstAsBefore, SecondAdds}
use Rattle.rules.proofs.Choices.{choice}
use Rattle.rules.proofs.Still.{action_chosen}
use Rattle.rules.proofs.Each.{Lasts, each_from}

pub load_chooses : LoadChooses
unfolding load
load_chooses edition end program memory picture history =
    choice (λ (a : Answer). a.world.machine.edition ≡ edition) (eqb (load_refusal end program memory picture history) 0) refl refl

-- ---- kept

chosen_lasts : (c : Chosen) → Lasts (λ w. chosen w.machine ≡ c)
unfolding stepped ticked undone redone
chosen_lasts c =
    record {
      step = λ keys random w e h. action_chosen (Step keys random) (board_of w) ∙ h;
      tick = λ w h. action_chosen Tick (board_of w) ∙ h;
      back = λ w e h. h;
      forward = λ w e h. action_chosen (action_at (next_record w)) (board_of w) ∙ h;
    }

pub chosen_kept : ChosenKept
chosen_kept = each_from (λ w v. chosen v.machine ≡ chosen w.machine) (λ w. chosen_lasts (chosen w.machine)) (λ w. refl)

-- ---- the instructions

either : (t : Bool) {x : Op} → pick t x x ≡ x
either true = refl
either false = refl

sum_before_law : (x y n : ℕ) → sum_op First x y n ≡ sum_before x y n
sum_before_law x y n = rw (either (eqb n 0xE), either (eqb n 0x7), either (eqb n 0x6), either (eqb n 0x3))

pub first_as_before : FirstAsBefore
unfolding decode
first_as_before hi lo = rw (sum_before_law (hi % 16) (lo / 16) (lo % 16))

module _ (x y n : ℕ) where
  sum_adds : sum_op First x y n ≡ pick (is_added n) Unlisted (sum_op Second x y n)
  sum_adds = go (eqb n 0x3) (eqb n 0x6) (eqb n 0x7) (eqb n 0xE) refl refl refl refl
    where
      go : (a b c d : Bool) → eqb n 0x3 ≡ a → eqb n 0x6 ≡ b → eqb n 0x7 ≡ c → eqb n 0xE ≡ d
          → sum_op First x y n ≡ pick (is_added n) Unlisted (sum_op Second x y n)
      go true b c d e f g h = rw (eqb-true n 0x3 e)
      go false true c d e f g h = rw (eqb-true n 0x6 f)
      go false false true d e f g h = rw (eqb-true n 0x7 g)
      go false false false true e f g h = rw (eqb-true n 0xE h)
      go false false false false e f g h = rw (e, f, g, h)

pub second_adds : SecondAdds
unfolding decode
second_adds hi lo = go (eqb (hi / 16) 0x8) refl
  where
    go : (t : Bool) → eqb (hi / 16) 0x8 ≡ t → decode First hi lo ≡ pick (added hi lo) Unlisted (decode Second hi lo)
    go true e = rw (eqb-true (hi / 16) 0x8 e) (sum_adds (hi % 16) (lo / 16) (lo % 16))
    go false e = rw e
