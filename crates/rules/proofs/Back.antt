-- What is read of a record is what was written there.
use mathlib.Core.Path.{◌≡◌, refl, ap, ap₂, ◌∙◌}
use mathlib.Core.Bool.{true}
use mathlib.Core.List.{List, [], ◌∷◌, ◌++◌, append_assoc}
use Prim.Native.Nat.{ℕ, ◌+◌, ◌-◌, ◌/◌, ◌%◌, ◌≤◌, ◌<◌}
use native.Mathlib.Omega.{arith}
use lib.ListN.{length, get_or, replicate, length-append, length-replicate}
use lib.Seq.{take_at, drop_at, get_or-append-add}
use lib.Dec.{eqb}
use borrow.Author.Tests.{leb-true}
use Rattle.rules.specs.declared.Action.{Action}
use Rattle.rules.specs.declared.Action.TheVariants.{Step, Tick}
use Rattle.rules.specs.declared.Machine.{Machine}
use Rattle.rules.specs.declared.Wait.{Wait}
use Rattle.rules.specs.declared.Wait.TheVariants.{Idle, Held}
use Rattle.rules.specs.declared.Change.{Change}
use Rattle.rules.specs.declared.Change.TheVariants.{Nothing, InMemory, InPicture}
use Rattle.rules.specs.Number.{word}
use Rattle.rules.specs.State.{held_sound}
use Rattle.rules.specs.Memory.{part}
use Rattle.rules.specs.Record.{mark, start, count, last_return, held_byte, fields, inputs, record_with}
use Rattle.rules.specs.Record.{byte_at, word_at, known, change_at, kind_sound, action_at}
use Rattle.rules.specs.Typed.{Below, none, more, TypedAction}
use Rattle.rules.proofs.Good.{GoodMachine}
use Rattle.rules.proofs.Choices.{choice}
use Rattle.rules.proofs.Parts.{below_get, below_append, below_zeros}

pub record Reads (r : List ℕ) (m : Machine) (c : Change) (old : List ℕ) (a : Action) : Type 0 where
  pub v : part r 2 16 ≡ m.v
  pub i : word_at r 18 ≡ m.i
  pub pc : word_at r 20 ≡ m.pc
  pub depth : byte_at r 22 ≡ m.depth
  pub last : word_at r 23 ≡ last_return m
  pub delay : byte_at r 25 ≡ m.timers.delay
  pub tone : byte_at r 26 ≡ m.timers.tone
  pub held : byte_at r 27 ≡ held_byte m.wait
  pub marked : known r ≡ true
  pub change : change_at r ≡ c
  pub bytes : part r 32 (count c) ≡ old
  pub kind : kind_sound r ≡ true
  pub action : TypedAction a → action_at r ≡ a

-- ---- a list that is put together

-- what stands behind a beginning of a elements
pub past : (p q : List ℕ) (a k : ℕ) → length p ≡ a → get_or (p ++ q) (a + k) 0 ≡ get_or q k 0
past p q a k e = rw (← e, get_or-append-add)

middle : (p x q : List ℕ) (a n : ℕ) → length p ≡ a → length x ≡ n → part (p ++ x ++ q) a n ≡ x
middle p x q a n e f = rw (append_assoc, drop_at p (x ++ q) a e, take_at x q n f)

regroup : (p f b z i : List ℕ) → p ++ f ++ b ++ z ++ i ≡ p ++ (f ++ (b ++ (z ++ i)))
regroup p f b z i = simp append_assoc

-- two bytes are their number
pub word_back : (r : List ℕ) (k n : ℕ) → byte_at r k ≡ n / 256 % 256 → byte_at r (k + 1) ≡ n % 256 → n < 65536 → word_at r k ≡ n
word_back r k n e f h = omega arith

-- ---- a record

pub mark_two : (c : Change) → length (mark c) ≡ 2
mark_two Nothing = refl
mark_two (InMemory s n) = refl
mark_two (InPicture s n) = refl

pub inputs_four : (a : Action) → length (inputs a) ≡ 4
inputs_four (Step keys random) = refl
inputs_four Tick = refl

-- the bytes from the 288th on are the inputs
abbrev Ends : List ℕ → Action → Type 0
Ends r a = (k : ℕ) → byte_at r (288 + k) ≡ byte_at (inputs a) k

module _ (m : Machine) (c : Change) (old : List ℕ) (a : Action) (sixteen : length m.v ≡ 16) where
  abbrev zeros : List ℕ
  zeros = replicate (256 - count c) 0

  abbrev rest : List ℕ
  rest = old ++ (zeros ++ inputs a)

  front : length (mark c ++ m.v) ≡ 18
  front = rw (length-append, mark_two c, sixteen)

  split : record_with m c old a ≡ mark c ++ m.v ++ (fields m c ++ rest)
  unfolding record_with
  split = regroup (mark c ++ m.v) (fields m c) old zeros (inputs a)

  pub record_length : length old ≡ count c → count c ≤ 256 → length (record_with m c old a) ≡ 292
  record_length e h = rw split (simp (length-append, length-replicate, mark_two c, sixteen, inputs_four a) (omega arith))

  -- the bytes from the 18th on
  field : (k : ℕ) → byte_at (record_with m c old a) (18 + k) ≡ byte_at (fields m c ++ rest) k
  field k = ap (λ (r : List ℕ). byte_at r (18 + k)) split ∙ past (mark c ++ m.v) (fields m c ++ rest) 18 k front

  v_back : part (record_with m c old a) 2 16 ≡ m.v
  v_back = ap (λ (r : List ℕ). part r 2 16) split ∙ middle (mark c) m.v (fields m c ++ rest) 2 16 (mark_two c) sixteen

  fields_end : length (mark c ++ m.v ++ fields m c) ≡ 32
  fields_end = length-append (mark c ++ m.v) (fields m c) ∙ ap (λ (n : ℕ). n + 14) front

  old_back : length old ≡ count c → part (record_with m c old a) 32 (count c) ≡ old
  unfolding record_with
  old_back e =
      rw (append_assoc (mark c ++ m.v ++ fields m c ++ old) zeros (inputs a))
      (middle (mark c ++ m.v ++ fields m c) old (zeros ++ inputs a) 32 (count c) fields_end e)

  start_back : start c < 65536 → word_at (record_with m c old a) 28 ≡ start c
  start_back = word_back (record_with m c old a) 28 (start c) (field 10) (field 11)

  pub count_back : count c < 65536 → word_at (record_with m c old a) 30 ≡ count c
  count_back = word_back (record_with m c old a) 30 (count c) (field 12) (field 13)

  ends : length old ≡ count c → count c ≤ 256 → Ends (record_with m c old a) a
  unfolding record_with
  ends e h k =
      past (mark c ++ m.v ++ fields m c ++ old ++ zeros) (inputs a) 288 k
      (simp (length-append, length-replicate, mark_two c, sixteen) (omega arith))

module _ (m : Machine) (old : List ℕ) (e : length m.v ≡ 16) where
  change_back : (c : Change) (a : Action) → start c < 65536 → count c < 65536 → change_at (record_with m c old a) ≡ c
  unfolding record_with
  change_back Nothing a s n = refl
  change_back (InMemory i k) a s n = ap₂ InMemory (start_back m (InMemory i k) old a e s) (count_back m (InMemory i k) old a e n)
  change_back (InPicture i k) a s n = ap₂ InPicture (start_back m (InPicture i k) old a e s) (count_back m (InPicture i k) old a e n)

  known_back : (c : Change) (a : Action) → known (record_with m c old a) ≡ true
  unfolding record_with
  known_back Nothing a = rw (start_back m Nothing old a e (omega arith), count_back m Nothing old a e (omega arith))
  known_back (InMemory i k) a = refl
  known_back (InPicture i k) a = refl

kind_back : (r : List ℕ) (a : Action) → Ends r a → kind_sound r ≡ true
kind_back r (Step keys random) at = rw (at 3)
kind_back r Tick at = rw (at 3)

action_back : (r : List ℕ) (a : Action) → Ends r a → TypedAction a → action_at r ≡ a
action_back r (Step keys random) at t = rw (at 3) (ap₂ Step (word_back r 288 keys (at 0) (at 1) t.0) (omega (arith, at 2, t.1)))
action_back r Tick at t = rw (at 3)

pub reads : (m : Machine) (c : Change) (old : List ℕ) (a : Action) → GoodMachine m → start c < 65536 → count c ≤ 256 → length old ≡ count c
    → Reads (record_with m c old a) m c old a
reads m c old a g s n sized =
    let e = g.v.size in
    let r = record_with m c old a in
    let at = field m c old a e in
    let last : last_return m < 65536 =
    choice (λ (a : ℕ). a < 65536) (eqb m.depth 0) (omega arith) (omega (arith, below_get (omega arith) g.calls.below (m.depth - 1))) in
    record {
      v = v_back m c old a e;
      i = word_back r 18 m.i (at 0) (at 1) g.i;
      pc = word_back r 20 m.pc (at 2) (at 3) g.pc;
      depth = at 4;
      last = word_back r 23 (last_return m) (at 5) (at 6) last;
      delay = at 7;
      tone = at 8;
      held = at 9;
      marked = known_back m old e c a;
      change = change_back m old e c a s (omega arith);
      bytes = old_back m c old a e sized;
      kind = kind_back r a (ends m c old a e sized n);
      action = action_back r a (ends m c old a e sized n);
    }

-- ---- a record is bytes

two_bytes : (a b : ℕ) → a < 256 → b < 256 → Below 256 (a ∷ b ∷ [])
two_bytes a b h k = more h (more k none)

mark_bytes : (c : Change) → Below 256 (mark c)
mark_bytes Nothing = two_bytes 0x4E 0x4F (omega arith) (omega arith)
mark_bytes (InMemory s n) = two_bytes 0x4D 0x45 (omega arith) (omega arith)
mark_bytes (InPicture s n) = two_bytes 0x44 0x49 (omega arith) (omega arith)

word_bytes : (n : ℕ) → Below 256 (word n)
word_bytes n = two_bytes (n / 256 % 256) (n % 256) (omega arith) (omega arith)

held_byte_law : (w : Wait) → held_sound w ≡ true → held_byte w < 256
held_byte_law Idle h = omega arith
held_byte_law (Held k) h = omega (arith, leb-true k 15 h)

input_bytes : (a : Action) → Below 256 (inputs a)
input_bytes (Step keys random) = below_append (word_bytes keys) (two_bytes (random % 256) 1 (omega arith) (omega arith))
input_bytes Tick = below_append (word_bytes 0) (two_bytes 0 0 (omega arith) (omega arith))

pub record_bytes : (m : Machine) (c : Change) (old : List ℕ) (a : Action) → GoodMachine m → Below 256 old → Below 256 (record_with m c old a)
unfolding record_with
record_bytes m c old a g h =
    let shallow : m.depth < 256 = omega (arith, g.calls.most) in
    let depth = more shallow none in
    let timers = more g.timers.delay (more g.timers.tone (more (held_byte_law m.wait g.wait) none)) in
    let front = below_append (below_append (below_append (word_bytes m.i) (word_bytes m.pc)) depth) (word_bytes (last_return m)) in
    let fields = below_append (below_append (below_append front timers) (word_bytes (start c))) (word_bytes (count c)) in
    let kept = below_append (below_append (below_append (mark_bytes c) g.v.below) fields) h in
    below_append (below_append kept (below_zeros (256 - count c) (omega arith))) (input_bytes a)
