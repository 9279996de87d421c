-- What stands in memory at and above the end plays no part in a board's actions: other bytes there give the same, with the other bytes
-- in it. It holds for every end that memory reaches.
use mathlib.Core.Path.{◌≡◌, refl, sym, ap, ap₂, ◌∙◌}
use mathlib.Core.Bool.{Bool, true, false}
use mathlib.Core.List.{List, ◌++◌}
use Prim.Native.Nat.{ℕ, zero, suc, ◌+◌, ◌-◌, ◌≤◌, ◌<◌}
use native.Mathlib.Omega.{arith}
use lib.ListN.{get_or, take, drop, length, length-append, length-take, length-drop, length-set, take-append-drop, get_or-append}
use lib.Seq.{length-take-le, get_or-take, take_at, drop-append_seam}
use lib.Dec.{eqb, leb}
use borrow.Author.Tests.{leb-true}
use Rattle.rules.specs.declared.Action.{Action}
use Rattle.rules.specs.declared.Action.TheVariants.{Step, Tick}
use Rattle.rules.specs.declared.Machine.{Machine}
use Rattle.rules.specs.declared.Change.{Change}
use Rattle.rules.specs.declared.Change.TheVariants.{Nothing, InMemory, InPicture}
use Rattle.rules.specs.declared.Op.{Op}
use Rattle.rules.specs.declared.Op.TheVariants.{Plain, AwaitKey, Call, Return, Clear, Draw, Decimal, Store, Fetch, Unlisted, MachineCode}
use Rattle.rules.specs.Number.{or_later}
use Rattle.rules.specs.State.{reg, up_to}
use Rattle.rules.specs.Instruction.{decode}
use Rattle.rules.specs.Memory.{part, over, digits_of}
use Rattle.rules.specs.Record.{old, record_with, memory_at}
use Rattle.rules.specs.Step.{Board, refusal_of, lit_refusal, change_of, counted, after, picture_after, past}
use Rattle.rules.specs.Dark.{dark_of}
use Rattle.rules.specs.Call.{op_at, board_by, step_tests, step_late, step_own, own_refusal, record_by}
use Rattle.rules.proofs.Choices.{choice, passed, both_zero}
use Rattle.profile.proofs.Alike.{later_same}
use Rattle.rules.proofs.Parts.{part_front, over_front, over_length, part_length}
use Rattle.rules.proofs.Undo.{Fits}
use Rattle.rules.proofs.Follow.{past_fits}
use Rattle.rules.proofs.Still.{simple_leaves, awaited_leaves}

-- ---- a list with other elements from e on

abbrev pub topped : ℕ → List ℕ → List ℕ → List ℕ
topped e j a = take e a ++ j

pub topped_length : (e : ℕ) (j a : List ℕ) → length j ≡ length (drop e a) → length (topped e j a) ≡ length a
topped_length e j a h = simp (length-append, length-take) (omega (arith, length-drop e a))

module _ (e : ℕ) (j a : List ℕ) (room : e ≤ length a) where
  front : length (take e a) ≡ e
  front = length-take-le e a room

  get_d_topped : (i : ℕ) → i < e → get_or (topped e j a) i 0 ≡ get_or a i 0
  get_d_topped i h = get_or-append (take e a) j 0 i (omega (arith, front)) ∙ get_or-take e a i 0 h

  module _ (s n : ℕ) (fits : s + n ≤ e) where
    before : s + n ≤ length (take e a)
    before = omega (arith, front)

    pub part_topped : part (topped e j a) s n ≡ part a s n
    part_topped =
        part_front (take e a) j s n before ∙ sym (part_front (take e a) (drop e a) s n before)
        ∙ ap (λ (l : List ℕ). part l s n) (take-append-drop e a)

    pub over_topped : (new : List ℕ) → length new ≡ n → over (topped e j a) s new n ≡ topped e j (over a s new n)
    over_topped new sized =
        let cut : take e (over a s new n) ≡ over (take e a) s new n =
        ap (λ (l : List ℕ). take e (over l s new n)) (sym (take-append-drop e a))
        ∙ ap (take e) (over_front (take e a) (drop e a) s n before new)
        ∙ take_at (over (take e a) s new n) (drop e a) e (over_length (take e a) new s n before sized ∙ front) in
        over_front (take e a) j s n before new ∙ ap (λ (l : List ℕ). l ++ j) (sym cut)

-- what a list has from e on, where it is that list with those elements there
pub topped_drop : (e : ℕ) (j a : List ℕ) → a ≡ topped e j a → drop e a ≡ j
topped_drop e j a q =
    let f = take e a in
    let behind : (l : List ℕ) → drop (length f) (f ++ l) ≡ l = λ l. drop-append_seam f l in
    sym (behind (drop e a)) ∙ ap (drop (length f)) (take-append-drop e a ∙ q) ∙ behind j

-- ---- a board with other bytes from e on

abbrev pub topped_board : ℕ → List ℕ → Board → Board
topped_board e j b = record { machine = b.machine; memory = topped e j b.memory; picture = b.picture }

module _ (m : Machine) (memory picture : List ℕ) (room : m.end ≤ length memory) (sixteen : length m.v ≡ 16) where
  abbrev e : ℕ
  e = m.end

  stored : (x : ℕ) → length (take (up_to x) m.v) ≡ up_to x
  stored x = length-take-le (up_to x) m.v (omega arith)

  -- sixteen registers, and as much memory as before
  abbrev Sized : Board → Type 0
  Sized b = (length b.machine.v ≡ 16) × (length b.memory ≡ length memory)

  pub after_sized : (op : Op) (keys random : ℕ) → refusal_of op m ≡ 0 → Sized (after op keys random m memory picture)
  unfolding refusal_of after
  after_sized (Plain s) keys random h = ((simple_leaves keys random m s).1 ∙ sixteen, refl)
  after_sized (AwaitKey x) keys random h = ((awaited_leaves keys random m x m.wait).1 ∙ sixteen, refl)
  after_sized (Call a) keys random h = (sixteen, refl)
  after_sized Return keys random h = (sixteen, refl)
  after_sized Clear keys random h = (sixteen, refl)
  after_sized (Draw x y n) keys random h = (length-set m.v 15 _ ∙ sixteen, refl)
  after_sized (Decimal x) keys random h =
      (sixteen, over_length memory (digits_of (reg m x)) m.i 3 (omega (arith, past_fits m 3 (omega arith) h)) refl)
  after_sized (Store x) keys random h =
      (sixteen, over_length memory (take (up_to x) m.v) m.i (up_to x) (omega (arith, past_fits m (up_to x) (omega arith) h)) (stored x))
  after_sized (Fetch x) keys random h =
      let fit = past_fits m (up_to x) (omega arith) h in
      (simp (length-append, length-take, length-drop) (omega arith), refl)
  after_sized Unlisted keys random h = (sixteen, refl)
  after_sized MachineCode keys random h = (sixteen, refl)

  module _ (j : List ℕ) where
    pattern_topped : (n : ℕ) → past m n ≡ 0 → part (topped e j memory) m.i n ≡ part memory m.i n
    pattern_topped zero h = refl
    pattern_topped (suc n) h = part_topped e j memory room m.i (suc n) (past_fits m (suc n) (omega arith) h)

    pub after_topped : (op : Op) (keys random : ℕ) → refusal_of op m ≡ 0
        → after op keys random m (topped e j memory) picture ≡ topped_board e j (after op keys random m memory picture)
    unfolding refusal_of after
    after_topped (Plain s) keys random h = refl
    after_topped (AwaitKey x) keys random h = refl
    after_topped (Call a) keys random h = refl
    after_topped Return keys random h = refl
    after_topped Clear keys random h = refl
    after_topped (Draw x y n) keys random h = rw (pattern_topped n h)
    after_topped (Decimal x) keys random h =
        rw (over_topped e j memory room m.i 3 (past_fits m 3 (omega arith) h) (digits_of (reg m x)) refl)
    after_topped (Store x) keys random h =
        rw (over_topped e j memory room m.i (up_to x) (past_fits m (up_to x) (omega arith) h) (take (up_to x) m.v) (stored x))
    after_topped (Fetch x) keys random h = rw (part_topped e j memory room m.i (up_to x) (past_fits m (up_to x) (omega arith) h))
    after_topped Unlisted keys random h = refl
    after_topped MachineCode keys random h = refl

    -- what a drawing darkens
    pub dark_topped : (op : Op) → refusal_of op m ≡ 0 → dark_of op m (topped e j memory) picture ≡ dark_of op m memory picture
    unfolding refusal_of dark_of
    dark_topped (Plain s) h = refl
    dark_topped (AwaitKey x) h = refl
    dark_topped (Call a) h = refl
    dark_topped Return h = refl
    dark_topped Clear h = refl
    dark_topped (Draw x y n) h = rw (pattern_topped n h)
    dark_topped (Decimal x) h = refl
    dark_topped (Store x) h = refl
    dark_topped (Fetch x) h = refl
    dark_topped Unlisted h = refl
    dark_topped MachineCode h = refl

    -- the bytes that a record keeps
    old_topped : (op : Op) → refusal_of op m ≡ 0 → old (change_of op m) (topped e j memory) picture ≡ old (change_of op m) memory picture
    unfolding refusal_of change_of
    old_topped (Plain s) h = refl
    old_topped (AwaitKey x) h = refl
    old_topped (Call a) h = refl
    old_topped Return h = refl
    old_topped Clear h = refl
    old_topped (Draw x y n) h = choice (λ (c : Change). old c (topped e j memory) picture ≡ old c memory picture) (eqb n 0) refl refl
    old_topped (Decimal x) h = part_topped e j memory room m.i 3 (past_fits m 3 (omega arith) h)
    old_topped (Store x) h = part_topped e j memory room m.i (up_to x) (past_fits m (up_to x) (omega arith) h)
    old_topped (Fetch x) h = refl
    old_topped Unlisted h = refl
    old_topped MachineCode h = refl

-- ---- an action

module _ (b : Board) (room : b.machine.end ≤ length b.memory) (sixteen : length b.machine.v ≡ 16) (two : 2 ≤ b.machine.end) where
  abbrev m : Machine
  m = b.machine

  pub accepted_op : step_own b ≡ 0 → (m.pc ≤ m.end - 2) × (refusal_of (op_at b) m ≡ 0)
  accepted_op h =
      let (near, ok) = passed (leb m.pc (m.end - 2)) 0 _ (both_zero (step_tests b) (step_late b) h).0 in
      (leb-true m.pc (m.end - 2) near, ok)

  pub action_sized : (a : Action) → own_refusal a b ≡ 0 → Sized m b.memory b.picture room sixteen (board_by a b)
  action_sized (Step keys random) h = after_sized m b.memory b.picture room sixteen (op_at b) keys random (accepted_op h).1
  action_sized Tick h = (sixteen, refl)

  module _ (j : List ℕ) where
    abbrev t : Board
    t = topped_board m.end j b

    pub op_topped : m.pc ≤ m.end - 2 → op_at t ≡ op_at b
    op_topped near =
        ap₂ (decode m.edition) (get_d_topped m.end j b.memory room m.pc (omega arith))
        (get_d_topped m.end j b.memory room (m.pc + 1) (omega arith))

    -- the tests of the instruction o of the one and p of the other
    op_own : (o p : Op) → o ≡ p
        → or_later (refusal_of o m) (lit_refusal m.lit b.picture (picture_after o m t.memory b.picture))
        ≡ or_later (refusal_of p m) (lit_refusal m.lit b.picture (picture_after p m b.memory b.picture))
    op_own o p q =
        rw q
        (later_same (refusal_of p m) λ h.
        ap (λ (c : Board). lit_refusal m.lit b.picture c.picture) (after_topped m b.memory b.picture room sixteen j p 0 0 h))

    pub own_topped : (a : Action) → own_refusal a t ≡ own_refusal a b
    own_topped (Step keys random) = go (leb m.pc (m.end - 2)) refl
      where
        go : (near : Bool) → leb m.pc (m.end - 2) ≡ near → step_own t ≡ step_own b
        go true h = rw h (op_own (op_at t) (op_at b) (op_topped (leb-true m.pc (m.end - 2) h)))
        go false h = rw h
    own_topped Tick = refl

    pub board_topped : (a : Action) → own_refusal a b ≡ 0 → board_by a t ≡ topped_board m.end j (board_by a b)
    board_topped (Step keys random) h =
        ap (λ (o : Op). counted t (after o keys random m t.memory b.picture)) (op_topped (accepted_op h).0)
        ∙ ap (counted t) (after_topped m b.memory b.picture room sixteen j (op_at b) keys random (accepted_op h).1)
    board_topped Tick h = refl

    pub record_topped : (a : Action) → own_refusal a b ≡ 0 → record_by a t ≡ record_by a b
    record_topped (Step keys random) h =
        ap (λ (o : Op). record_with m (change_of o m) (old (change_of o m) t.memory b.picture) (Step keys random)) (op_topped (accepted_op h).0)
        ∙ ap (λ (l : List ℕ). record_with m (change_of (op_at b) m) l (Step keys random))
        (old_topped m b.memory b.picture room sixteen j (op_at b) (accepted_op h).1)
    record_topped Tick h = refl

-- ---- a record's bytes put back

module _ (e : ℕ) (memory r : List ℕ) (room : e ≤ length memory) (place : length r ≡ 292) where
  kept_bytes : (n : ℕ) → n ≤ 16 → length (part r 32 n) ≡ n
  kept_bytes n h = part_length r 32 n (omega arith)

  pub memory_sized : (c : Change) → Fits e c → length (memory_at c r memory) ≡ length memory
  memory_sized Nothing f = refl
  memory_sized (InMemory s n) f = over_length memory (part r 32 n) s n (omega (arith, f)) (kept_bytes n f.1)
  memory_sized (InPicture s n) f = refl

  pub memory_topped : (j : List ℕ) (c : Change) → Fits e c → memory_at c r (topped e j memory) ≡ topped e j (memory_at c r memory)
  memory_topped j Nothing f = refl
  memory_topped j (InMemory s n) f = over_topped e j memory room s n f.2 (part r 32 n) (kept_bytes n f.1)
  memory_topped j (InPicture s n) f = refl
