-- The rules of the instructions leave what a load chose, and the number of lit spots: so that changes only where the picture does.
use mathlib.Core.Path.{◌≡◌, refl, sym, ap, ◌∙◌}
use mathlib.Core.List.{List}
use Prim.Native.Nat.{ℕ, ◌%◌}
use lib.ListN.{set, length, length-set}
use lib.Dec.{eqb}
use Rattle.rules.specs.declared.Action.{Action}
use Rattle.rules.specs.declared.Action.TheVariants.{Step, Tick}
use Rattle.rules.specs.declared.Machine.{Machine}
use Rattle.rules.specs.declared.Wait.{Wait}
use Rattle.rules.specs.declared.Wait.TheVariants.{Idle, Held}
use Rattle.rules.specs.declared.Op.{Op}
use Rattle.rules.specs.declared.Op.TheVariants.{Plain, AwaitKey, Call, Return, Clear, Draw, Decimal, Store, Fetch, Unlisted, MachineCode}
use Rattle.rules.specs.declared.Simple.{Simple}
use Rattle.rules.specs.declared.Simple.TheVariants.{Jump, JumpFrom, SkipEqual, SkipDiffers, SkipSame, SkipOther, SkipDown, SkipUp}
use Rattle.rules.specs.declared.Simple.TheVariants.{Put, Add, Chance, Copy, Or, And, Plus, Minus, Xor, Halve, MinusFrom, Double}
use Rattle.rules.specs.declared.Simple.TheVariants.{Index, AddIndex, Digit, FromDelay, ToDelay, ToTone}
use Rattle.rules.specs.State.{Chosen, chosen, with_reg}
use Rattle.rules.specs.Registers.{simple, awaited, down}
use Rattle.rules.specs.Step.{Board, lit_after, counted, after}
use Rattle.rules.specs.Call.{op_at, board_by}
use Rattle.rules.specs.Lit.{LitStill}
use Rattle.rules.proofs.Choices.{choice}
use Rattle.rules.proofs.Counted.{lit_same}
use Rattle.rules.proofs.Follow.{picture_after_law}

-- what the rules of the instructions leave
abbrev left : Machine → Chosen × ℕ
left m = (chosen m, m.lit)

-- and how many variables there are
abbrev pub Leaves : Machine → Machine → Type 0
Leaves m n = (left n ≡ left m) × (length n.v ≡ length m.v)

module _ (keys random : ℕ) (m : Machine) where
  put : (x b : ℕ) → Leaves m (with_reg x b m)
  put x b = (refl, length-set m.v (x % 16) b)

  flag : (x b f : ℕ) → Leaves m (with_reg 0xF f (with_reg x b m))
  flag x b f = (refl, length-set (set m.v (x % 16) b) 15 f ∙ length-set m.v (x % 16) b)

  pub simple_leaves : (s : Simple) → Leaves m (simple s keys random m)
  simple_leaves (Jump a) = (refl, refl)
  simple_leaves (JumpFrom a) = (refl, refl)
  simple_leaves (SkipEqual x kk) = (refl, refl)
  simple_leaves (SkipDiffers x kk) = (refl, refl)
  simple_leaves (SkipSame x y) = (refl, refl)
  simple_leaves (SkipOther x y) = (refl, refl)
  simple_leaves (SkipDown x) = (refl, refl)
  simple_leaves (SkipUp x) = (refl, refl)
  simple_leaves (Put x kk) = put x _
  simple_leaves (Add x kk) = put x _
  simple_leaves (Chance x kk) = put x _
  simple_leaves (Copy x y) = put x _
  simple_leaves (Or x y) = flag x _ _
  simple_leaves (And x y) = flag x _ _
  simple_leaves (Plus x y) = flag x _ _
  simple_leaves (Minus x y) = flag x _ _
  simple_leaves (Xor x y) = flag x _ _
  simple_leaves (Halve x y) = flag x _ _
  simple_leaves (MinusFrom x y) = flag x _ _
  simple_leaves (Double x y) = flag x _ _
  simple_leaves (Index a) = (refl, refl)
  simple_leaves (AddIndex x) = (refl, refl)
  simple_leaves (Digit x) = (refl, refl)
  simple_leaves (FromDelay x) = put x _
  simple_leaves (ToDelay x) = (refl, refl)
  simple_leaves (ToTone x) = (refl, refl)

  pub awaited_leaves : (x : ℕ) (w : Wait) → Leaves m (awaited x keys m w)
  awaited_leaves x Idle = choice (Leaves m) (eqb keys 0) (refl, refl) (refl, refl)
  awaited_leaves x (Held k) = choice (Leaves m) (down keys k) (refl, refl) (put x k)

  module _ (memory picture : List ℕ) where
    after_left : (op : Op) → left (after op keys random m memory picture).machine ≡ left m
    unfolding after
    after_left (Plain s) = (simple_leaves s).0
    after_left (AwaitKey x) = (awaited_leaves x m.wait).0
    after_left (Call a) = refl
    after_left Return = refl
    after_left Clear = refl
    after_left (Draw x y n) = refl
    after_left (Decimal x) = refl
    after_left (Store x) = refl
    after_left (Fetch x) = refl
    after_left Unlisted = refl
    after_left MachineCode = refl

pub action_chosen : (a : Action) (b : Board) → chosen (board_by a b).machine ≡ chosen b.machine
action_chosen (Step keys random) b = ap (λ (l : Chosen × ℕ). l.0) (after_left keys random b.machine b.memory b.picture (op_at b))
action_chosen Tick b = refl

-- ---- the number of lit spots

pub after_lit : (op : Op) (keys random : ℕ) (m : Machine) (memory picture : List ℕ) → (after op keys random m memory picture).machine.lit ≡ m.lit
after_lit op keys random m memory picture = ap (λ (l : Chosen × ℕ). l.1) (after_left keys random m memory picture op)

-- a board with the number and the picture of the one before it is counted already
pub counted_same : (b c : Board) → c.machine.lit ≡ b.machine.lit → c.picture ≡ b.picture → counted b c ≡ c
counted_same b c e f =
    let lit : lit_after b.machine.lit b.picture c.picture ≡ c.machine.lit = rw f (lit_same b.machine.lit b.picture ∙ sym e) in
    λ i. record {
      machine = record {
        v = c.machine.v;
        i = c.machine.i;
        pc = c.machine.pc;
        stack = c.machine.stack;
        depth = c.machine.depth;
        timers = c.machine.timers;
        wait = c.machine.wait;
        edition = c.machine.edition;
        lit = lit i;
        end = c.machine.end;
      };
      memory = c.memory;
      picture = c.picture;
    }

pub lit_still : LitStill
lit_still keys random b e =
    let m = b.machine in
    let same = sym (picture_after_law (op_at b) keys random m b.memory b.picture) ∙ e in
    ap (lit_after m.lit b.picture) same ∙ lit_same m.lit b.picture
