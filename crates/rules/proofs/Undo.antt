-- One action and its undoing: the record that is written beside an action gives back what stood before it, and the action itself.
use mathlib.Core.Path.{◌≡◌, refl, sym, ap}
use mathlib.Core.Bool.{Bool, true, false, not, ◌&&◌, ◌||◌, and-eq-true_iff, or-false}
use mathlib.Core.List.{List, ◌++◌}
use Prim.Native.Nat.{ℕ, zero, suc, ◌+◌, ◌-◌, ◌≤◌, ◌<◌}
use native.Mathlib.Omega.{arith}
use lib.ListN.{get_or, set, take, drop, length, take-append-drop}
use lib.Seq.{take-suc, take-suc-set}
use lib.Dec.{eqb, leb}
use borrow.Author.Tests.{leb-true, le-leb, ne_eqb, not-false}
use Rattle.rules.specs.declared.Action.{Action}
use Rattle.rules.specs.declared.Wait.{Wait}
use Rattle.rules.specs.declared.Wait.TheVariants.{Idle, Held}
use Rattle.rules.specs.declared.Machine.{Machine}
use Rattle.rules.specs.declared.Change.{Change}
use Rattle.rules.specs.declared.Change.TheVariants.{Nothing, InMemory, InPicture}
use Rattle.rules.specs.Number.{pick}
use Rattle.rules.specs.State.{Chosen, chosen, held_sound}
use Rattle.rules.specs.Memory.{part}
use Rattle.rules.specs.Record.{start, count, allowed, old, held_byte, last_return, record_of, byte_at, word_at, stack_at, wait_at}
use Rattle.rules.specs.Record.{known, change_sound, depth_sound, key_sound, kind_sound, damaged, memory_at, picture_at, change_at, board_at}
use Rattle.rules.specs.Step.{Board, lit_after, lit_refusal}
use Rattle.rules.proofs.Good.{GoodCalls, GoodEnd, GoodBoard}
use Rattle.rules.proofs.Choices.{and_both}
use Rattle.rules.proofs.Parts.{zeroes, put_back, part_length}
use Rattle.rules.proofs.Back.{Reads, reads, record_length}
use Rattle.rules.proofs.Counted.{Recounts}

-- ---- an action that can be undone

-- the change is one that a record may hold, where memory has that end
abbrev pub Fits : ℕ → Change → Type 0
Fits end Nothing = Unit {0}
Fits end (InMemory s n) = (1 ≤ n) × (n ≤ 16) × (s + n ≤ end)
Fits end (InPicture s n) = (1 ≤ n) × (n ≤ 256) × (s + n ≤ 256)

-- the lists are equal before and behind the bytes from s on, n of them
pub record Outside (s n : ℕ) (l l' : List ℕ) : Type 0 where
  pub before : take s l' ≡ take s l
  pub behind : drop (s + n) l' ≡ drop (s + n) l

-- memory and picture differ only where the change says
abbrev pub Only : Change → Board → Board → Type 0
Only Nothing b b' = (b'.memory ≡ b.memory) × (b'.picture ≡ b.picture)
Only (InMemory s n) b b' = Outside s n b.memory b'.memory × (b'.picture ≡ b.picture)
Only (InPicture s n) b b' = (b'.memory ≡ b.memory) × Outside s n b.picture b'.picture

-- two stacks with their depths: the new one is the old one below its last return address, and is deeper or less deep by one at most
pub record Near (stack : List ℕ) (depth : ℕ) (stack' : List ℕ) (depth' : ℕ) : Type 0 where
  pub same : take (depth - 1) stack' ≡ take (depth - 1) stack
  pub rise : depth' ≤ depth + 1
  pub fall : depth ≤ depth' + 1

-- from b to b': the change fits and is all but the state
pub record Undoable (c : Change) (b b' : Board) : Type 0 where
  pub fits : Fits b.machine.end c
  pub only : Only c b b'
  pub near : Near b.machine.stack b.machine.depth b'.machine.stack b'.machine.depth

-- the record r, beside the board b', gives back b
pub record Restores (r : List ℕ) (b' b : Board) : Type 0 where
  pub board : board_at r b' ≡ b
  pub intact : damaged b'.machine.end r b'.machine.depth ≡ false
  pub late : lit_refusal b'.machine.lit b'.picture (picture_at (change_at r) r b'.picture) ≡ 0

-- ---- a change that fits

fits_start : {end : ℕ} (c : Change) → GoodEnd end → Fits end c → (start c < 65536) × (count c ≤ 256)
fits_start Nothing g f = omega arith
fits_start (InMemory s n) g f = omega arith
fits_start (InPicture s n) g f = omega arith

within : (s n most end : ℕ) → (1 ≤ n) × (n ≤ most) × (s + n ≤ end) → (leb 1 n && leb n most && leb (s + n) end) ≡ true
within s n most end f = and_both (and_both (le-leb _ _ f.0) (le-leb _ _ f.1)) (le-leb _ _ f.2)

fits_allowed : (end : ℕ) (c : Change) → Fits end c → allowed end c ≡ true
fits_allowed end Nothing f = refl
fits_allowed end (InMemory s n) f = within s n 16 end f
fits_allowed end (InPicture s n) f = within s n 256 256 f

old_length : (c : Change) (b : Board) → GoodBoard b → Fits b.machine.end c → length (old c b.memory b.picture) ≡ count c
old_length Nothing b g f = refl
old_length (InMemory s n) b g f = part_length b.memory s n (omega (arith, f, g.memory.size, g.machine.end.most))
old_length (InPicture s n) b g f = part_length b.picture s n (omega (arith, f, g.picture.size))

-- ---- the parts that are given back

stack_back : (d last : ℕ) (stack stack' : List ℕ) → GoodCalls stack d → length stack' ≡ 12 → take (d - 1) stack' ≡ take (d - 1) stack
    → (0 < d → last ≡ get_or stack (d - 1) 0)
    → take d (set stack' (d - 1) last) ++ zeroes (12 - d) ≡ stack
stack_back zero last stack stack' g l below is = sym g.unused
stack_back (suc e) last stack stack' g l below is =
    let one : suc e - 1 ≡ e = omega arith in
    let below₁ : take e stack' ≡ take e stack = rw one at below in
    let is₁ : last ≡ get_or stack e 0 = rw one at (is (omega arith)) in
    rw (one, take-suc-set stack' e last (omega (arith, g.most)), below₁, is₁, ← take-suc stack e 0 (omega arith), ← g.unused)
    (take-append-drop (suc e) stack)

last_is : (m : Machine) → 0 < m.depth → last_return m ≡ get_or m.stack (m.depth - 1) 0
last_is m h = rw (ne_eqb m.depth 0 (λ e. omega arith))

pub wait_back : (w : Wait) → held_sound w ≡ true → pick (eqb (held_byte w) 0xFF) Idle (Held (held_byte w)) ≡ w
wait_back Idle h = refl
wait_back (Held k) h = rw (ne_eqb k 0xFF (λ e. omega (arith, leb-true k 15 h)))

key_sound_law : (w : Wait) → held_sound w ≡ true → (leb (held_byte w) 15 || eqb (held_byte w) 0xFF) ≡ true
key_sound_law Idle h = refl
key_sound_law (Held k) h = rw h

last_sound : (t : Bool) (x : ℕ) → (not t || eqb (pick t 0 x) 0) ≡ true
last_sound true x = refl
last_sound false x = refl

memory_back : (r : List ℕ) (c : Change) (b b' : Board) → Only c b b' → part r 32 (count c) ≡ old c b.memory b.picture
    → memory_at c r b'.memory ≡ b.memory
memory_back r Nothing b b' o e = o.0
memory_back r (InMemory s n) b b' o e = rw e (put_back b'.memory b.memory s n o.0.before o.0.behind)
memory_back r (InPicture s n) b b' o e = o.0

picture_back : (r : List ℕ) (c : Change) (b b' : Board) → Only c b b' → part r 32 (count c) ≡ old c b.memory b.picture
    → picture_at c r b'.picture ≡ b.picture
picture_back r Nothing b b' o e = o.1
picture_back r (InMemory s n) b b' o e = o.1
picture_back r (InPicture s n) b b' o e = rw e (put_back b'.picture b.picture s n o.1.before o.1.behind)

-- ---- UNDO

module _ (c : Change) (a : Action) (b : Board) (g : GoodBoard b) (fits : Fits b.machine.end c) where
  pub written_length : length (record_of c a b) ≡ 292
  written_length = record_length b.machine c _ a g.machine.v.size (old_length c b g fits) (fits_start c g.machine.end fits).1

  pub written_reads : Reads (record_of c a b) b.machine c (old c b.memory b.picture) a
  written_reads = let (s, n) = fits_start c g.machine.end fits in reads b.machine c _ a g.machine s n (old_length c b g fits)

pub undo : (c : Change) (a : Action) (b b' : Board) → GoodBoard b → GoodBoard b' → Undoable c b b'
    → chosen b'.machine ≡ chosen b.machine → Recounts b b' → Restores (record_of c a b) b' b
undo c a b b' g g' u kept n =
    record {
      board = λ i. record {
        machine = record {
          v = read.v i;
          i = read.i i;
          pc = read.pc i;
          stack = stack i;
          depth = read.depth i;
          timers = record { delay = read.delay i; tone = read.tone i };
          wait = wait i;
          edition = (kept i).edition;
          lit = lit i;
          end = (kept i).end;
        };
        memory = memory i;
        picture = picture i;
      };
      late = rw picture n.late;
      intact = ap not
          (and_both (and_both (and_both change_sound_law depth_sound_law) (rw read.held (key_sound_law m.wait g.machine.wait))) read.kind);
    }
  where
    m : Machine
    m = b.machine

    r : List ℕ
    r = record_of c a b

    read : Reads r m c (old c b.memory b.picture) a
    read = written_reads c a b g u.fits

    memory : memory_at (change_at r) r b'.memory ≡ b.memory
    memory = rw read.change (memory_back r c b b' u.only read.bytes)

    picture : picture_at (change_at r) r b'.picture ≡ b.picture
    picture = rw read.change (picture_back r c b b' u.only read.bytes)

    lit : lit_after b'.machine.lit b'.picture (picture_at (change_at r) r b'.picture) ≡ b.machine.lit
    lit = rw picture n.lit

    stack : stack_at r b'.machine.stack ≡ m.stack
    stack = rw (read.depth, read.last)
        (stack_back m.depth (last_return m) m.stack b'.machine.stack g.machine.calls g'.machine.calls.size
        u.near.same (last_is m))

    wait : wait_at r ≡ m.wait
    wait = rw read.held (wait_back m.wait g.machine.wait)

    change_sound_law : change_sound b'.machine.end r ≡ true
    change_sound_law = and_both read.marked (rw (read.change, ap (λ (c : Chosen). c.end) kept) (fits_allowed m.end c u.fits))

    depth_sound_law : depth_sound r b'.machine.depth ≡ true
    depth_sound_law = rw (read.depth, read.last)
        (and_both (and_both (and_both (le-leb _ _ g.machine.calls.most) (le-leb _ _ u.near.fall)) (le-leb _ _ u.near.rise))
        (last_sound (eqb m.depth 0) (get_or m.stack (m.depth - 1) 0)))

-- ---- what can be used of a record that is not damaged

pub record Usable (end : ℕ) (r : List ℕ) : Type 0 where
  pub shallow : byte_at r 22 ≤ 12
  pub fits : Fits end (change_at r)
  pub held : held_sound (wait_at r) ≡ true

inside : (s n most end : ℕ) → (leb 1 n && leb n most && leb (s + n) end) ≡ true → (1 ≤ n) × (n ≤ most) × (s + n ≤ end)
inside s n most end e =
    let all = (and-eq-true_iff (leb 1 n && leb n most) (leb (s + n) end)).0 e in
    let both = (and-eq-true_iff (leb 1 n) (leb n most)).0 all.0 in
    (leb-true 1 n both.0, leb-true n most both.1, leb-true (s + n) end all.1)

allowed_fits : (end : ℕ) (c : Change) → allowed end c ≡ true → Fits end c
allowed_fits end Nothing e = tt
allowed_fits end (InMemory s n) e = inside s n 16 end e
allowed_fits end (InPicture s n) e = inside s n 256 256 e

first : (a b c d : Bool) → (a && b && c && d) ≡ true → a ≡ true
first true b c d e = refl
first false b c d e = e

held_sound_law : (k : ℕ) (t : Bool) → (leb k 15 || t) ≡ true → held_sound (pick t Idle (Held k)) ≡ true
held_sound_law k true e = refl
held_sound_law k false e = rw or-false at e

pub usable : (end : ℕ) (r : List ℕ) (present : ℕ) → damaged end r present ≡ false → Usable end r
usable end r p e =
    let whole = (and-eq-true_iff (change_sound end r && depth_sound r p && key_sound r) (kind_sound r)).0 (not-false _ e) in
    let all = (and-eq-true_iff (change_sound end r && depth_sound r p) (key_sound r)).0 whole.0 in
    let both = (and-eq-true_iff (change_sound end r) (depth_sound r p)).0 all.0 in
    let d = byte_at r 22 in
    record {
      shallow = leb-true d 12 (first (leb d 12) (leb d (p + 1)) (leb p (d + 1)) (not (eqb d 0) || eqb (word_at r 23) 0) both.1);
      fits = allowed_fits end (change_at r) ((and-eq-true_iff (known r) (allowed end (change_at r))).0 both.0).1;
      held = held_sound_law (byte_at r 27) (eqb (byte_at r 27) 0xFF) all.1;
    }
