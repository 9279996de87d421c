-- Every accepted step and every tick leads from a board in range to a board in range, and can be undone.
use mathlib.Core.Path.{◌≡◌, refl, sym, ap, ap₂, ◌∙◌}
use mathlib.Core.Bool.{Bool, true, false, ◌&&◌}
use mathlib.Core.List.{List, ◌∷◌, ◌++◌}
use Prim.Native.Nat.{ℕ, zero, suc, ◌+◌, ◌-◌, ◌*◌, ◌/◌, ◌%◌, ◌≤◌, ◌<◌}
use native.Mathlib.Omega.{arith}
use lib.ListN.{get_or, set, take, drop, length, length-append, length-take, length-drop, length-set, length-replicate}
use lib.ListN.{take-append-drop, drop_of_length-le}
use lib.Seq.{drop_at, take-set-le, drop-set-lt, set_split, drop-drop, length-take-le}
use lib.Dec.{eqb, ltb, leb}
use lib.Bits.{and_le_r, and_lt, or_lt, xor_lt}
use borrow.Author.Tests.{ltb-true, leb-true, eqb-true, eqb-false, le-leb, ne_eqb}
use Rattle.rules.specs.declared.Edition.{Edition}
use Rattle.rules.specs.declared.Edition.TheVariants.{First, Second}
use Rattle.rules.specs.declared.Action.{Action}
use Rattle.rules.specs.declared.Action.TheVariants.{Step, Tick}
use Rattle.rules.specs.declared.Machine.{Machine}
use Rattle.rules.specs.declared.Timers.{Timers}
use Rattle.rules.specs.declared.Wait.{Wait}
use Rattle.rules.specs.declared.Wait.TheVariants.{Idle, Held}
use Rattle.rules.specs.declared.Op.{Op}
use Rattle.rules.specs.declared.Op.TheVariants.{Plain, AwaitKey, Call, Return, Clear, Draw, Decimal, Store, Fetch, Unlisted, MachineCode}
use Rattle.rules.specs.declared.Change.{Change}
use Rattle.rules.specs.declared.Change.TheVariants.{Nothing, InMemory, InPicture}
use Rattle.rules.specs.declared.Simple.{Simple}
use Rattle.rules.specs.declared.Simple.TheVariants.{Jump, JumpFrom, SkipEqual, SkipDiffers, SkipSame, SkipOther, SkipDown, SkipUp}
use Rattle.rules.specs.declared.Simple.TheVariants.{Put, Add, Chance, Copy, Or, And, Plus, Minus, Xor, Halve, MinusFrom, Double}
use Rattle.rules.specs.declared.Simple.TheVariants.{Index, AddIndex, Digit, FromDelay, ToDelay, ToTone}
use Rattle.rules.specs.Number.{pick, is_one}
use Rattle.rules.specs.State.{held_sound, reg, with_v, with_reg, with_i, with_pc, with_timers, with_stack, with_wait, up_to}
use Rattle.rules.specs.Instruction.{in_second, decode}
use Rattle.rules.specs.Registers.{simple, skip_if, skip_unless, flagged, awaited, called, returned, onward, down, lowest_from}
use Rattle.rules.specs.Picture.{drawn, darkened}
use Rattle.rules.specs.Memory.{part, over, digits_of}
use Rattle.rules.specs.Step.{Board, refusal_of, lit_refusal, change_of, counted, after, picture_after, past, column, row, row_bytes}
use Rattle.rules.proofs.Choices.{choice, not_zero, passed, both_zero}
use Rattle.rules.proofs.Parts.{zeroes, drop_zeros, over_take, over_drop, part_length}
use Rattle.rules.proofs.Parts.{below_get, below_set, below_append, below_take, below_drop, below_zeros, bytes_over}
use Rattle.rules.specs.Call.{lowered, tick_board, op_at, board_by, change_by, step_tests, step_late, own_refusal}
use Rattle.rules.specs.Typed.{Below, none, more}
use Rattle.rules.proofs.Good.{Bytes, GoodCalls, GoodTimers, GoodMachine, GoodBoard}
use Rattle.rules.proofs.Drawn.{drawn_bytes, drawn_outside}
use Rattle.rules.proofs.Undo.{Outside, Only, Near, Undoable}
use Rattle.rules.proofs.Counted.{Recounts, still_recounts, counted_recounts, counted_good}

-- ---- what the instructions hold

abbrev SimpleFits : Simple → Type 0
SimpleFits (Jump a) = a < 4096
SimpleFits (JumpFrom a) = Unit {0}
SimpleFits (SkipEqual x kk) = Unit {0}
SimpleFits (SkipDiffers x kk) = Unit {0}
SimpleFits (SkipSame x y) = Unit {0}
SimpleFits (SkipOther x y) = Unit {0}
SimpleFits (SkipDown x) = Unit {0}
SimpleFits (SkipUp x) = Unit {0}
SimpleFits (Put x kk) = kk < 256
SimpleFits (Add x kk) = Unit {0}
SimpleFits (Chance x kk) = kk < 256
SimpleFits (Copy x y) = Unit {0}
SimpleFits (Or x y) = Unit {0}
SimpleFits (And x y) = Unit {0}
SimpleFits (Plus x y) = Unit {0}
SimpleFits (Minus x y) = Unit {0}
SimpleFits (Xor x y) = Unit {0}
SimpleFits (Halve x y) = Unit {0}
SimpleFits (MinusFrom x y) = Unit {0}
SimpleFits (Double x y) = Unit {0}
SimpleFits (Index a) = a < 4096
SimpleFits (AddIndex x) = Unit {0}
SimpleFits (Digit x) = Unit {0}
SimpleFits (FromDelay x) = Unit {0}
SimpleFits (ToDelay x) = Unit {0}
SimpleFits (ToTone x) = Unit {0}

abbrev pub OpFits : Op → Type 0
OpFits (Plain s) = SimpleFits s
OpFits (AwaitKey x) = Unit {0}
OpFits (Call a) = a < 4096
OpFits Return = Unit {0}
OpFits Clear = Unit {0}
OpFits (Draw x y n) = n < 16
OpFits (Decimal x) = Unit {0}
OpFits (Store x) = Unit {0}
OpFits (Fetch x) = Unit {0}
OpFits Unlisted = Unit {0}
OpFits MachineCode = Unit {0}

record Fit (o : Op) : Type 0 where
  fits : OpFits o

fit : {o : Op} → OpFits o → Fit o
fit h = record { fits = h }

fit_second : (edition : Edition) {o : Op} → Fit o → Fit (in_second edition o)
fit_second First h = fit tt
fit_second Second h = h

pub decode_fits : (edition : Edition) (hi lo : ℕ) → hi < 256 → lo < 256 → OpFits (decode edition hi lo)
unfolding decode
decode_fits edition hi lo hh lh = tree.fits
  where
    first : (k : ℕ) {p q : Op} → Fit p → Fit q → Fit (pick (eqb (hi / 16) k) p q)
    first k = choice Fit (eqb (hi / 16) k)

    last : (k : ℕ) {p q : Op} → Fit p → Fit q → Fit (pick (eqb (lo % 16) k) p q)
    last k = choice Fit (eqb (lo % 16) k)

    low : (k : ℕ) {p q : Op} → Fit p → Fit q → Fit (pick (eqb lo k) p q)
    low k = choice Fit (eqb lo k)

    address : hi % 16 * 256 + lo < 4096
    address = omega arith

    -- an operation of the second edition
    new : {o : Op} → Fit o → Fit (in_second edition o)
    new = fit_second edition

    tree : Fit (decode edition hi lo)
    tree =
        first 0x0 (choice Fit (eqb hi 0x00 && eqb lo 0xE0) (fit tt) (choice Fit (eqb hi 0x00 && eqb lo 0xEE) (fit tt) (fit tt)))
        (first 0x1 (fit address)
        (first 0x2 (fit address)
        (first 0x3 (fit tt)
        (first 0x4 (fit tt)
        (first 0x5 (last 0x0 (fit tt) (fit tt))
        (first 0x6 (fit lh)
        (first 0x7 (fit tt)
        (first 0x8
        (last 0x0 (fit tt) (last 0x1 (fit tt) (last 0x2 (fit tt) (last 0x4 (fit tt) (last 0x5 (fit tt)
        (last 0x3 (new (fit tt)) (last 0x6 (new (fit tt)) (last 0x7 (new (fit tt)) (last 0xE (new (fit tt)) (fit tt))))))))))
        (first 0x9 (last 0x0 (fit tt) (fit tt))
        (first 0xA (fit address)
        (first 0xB (fit tt)
        (first 0xC (fit lh)
        (first 0xD (fit (omega arith))
        (first 0xE (low 0x9E (fit tt) (low 0xA1 (fit tt) (fit tt)))
        (low 0x07 (fit tt) (low 0x0A (fit tt) (low 0x15 (fit tt) (low 0x18 (fit tt) (low 0x1E (fit tt)
        (low 0x29 (fit tt) (low 0x33 (fit tt) (low 0x55 (fit tt) (low 0x65 (fit tt) (fit tt))))))))))))))))))))))))

-- ---- a machine with one part changed

-- m' is in range, and is near m
pub record Reached (m m' : Machine) : Type 0 where
  pub good : GoodMachine m'
  pub near : Near m.stack m.depth m'.stack m'.depth

module _ {m n : Machine} (k : Reached m n) where
  abbrev g : GoodMachine n
  g = k.good

  keep_v : (v : List ℕ) → Bytes 16 v → Reached m (with_v v n)
  keep_v v h = record { good = record { v = h; i = g.i; pc = g.pc; calls = g.calls; timers = g.timers; wait = g.wait; lit = g.lit; end = g.end }; near = k.near }

  keep_i : (i : ℕ) → i < 65536 → Reached m (with_i i n)
  keep_i i h = record { good = record { v = g.v; i = h; pc = g.pc; calls = g.calls; timers = g.timers; wait = g.wait; lit = g.lit; end = g.end }; near = k.near }

  keep_pc : (pc : ℕ) → pc < 65536 → Reached m (with_pc pc n)
  keep_pc pc h = record { good = record { v = g.v; i = g.i; pc = h; calls = g.calls; timers = g.timers; wait = g.wait; lit = g.lit; end = g.end }; near = k.near }

  keep_calls : (s : List ℕ) (d : ℕ) → GoodCalls s d → Near m.stack m.depth s d → Reached m (with_stack s d n)
  keep_calls s d h near = record { good = record { v = g.v; i = g.i; pc = g.pc; calls = h; timers = g.timers; wait = g.wait; lit = g.lit; end = g.end }; near = near }

  keep_timers : (t : Timers) → GoodTimers t → Reached m (with_timers t n)
  keep_timers t h = record { good = record { v = g.v; i = g.i; pc = g.pc; calls = g.calls; timers = h; wait = g.wait; lit = g.lit; end = g.end }; near = k.near }

  keep_wait : (w : Wait) → held_sound w ≡ true → Reached m (with_wait w n)
  keep_wait w h = record { good = record { v = g.v; i = g.i; pc = g.pc; calls = g.calls; timers = g.timers; wait = h; lit = g.lit; end = g.end }; near = k.near }

  keep_set : (i b : ℕ) → b < 256 → Reached m (with_v (set n.v i b) n)
  keep_set i b h = keep_v _ (record { size = length-set n.v i b ∙ g.v.size; below = below_set g.v.below i b h })

  -- past the instruction, and no key awaited
  keep_onward : n.pc ≤ 4094 → Reached m (onward n)
  keep_onward h = keep_pc (n.pc + 2) (omega arith)

  idle : Reached m (with_wait Idle n)
  idle = keep_wait Idle refl

keep : {m : Machine} → GoodMachine m → Reached m m
keep g = record { good = g; near = record { same = refl; rise = omega arith; fall = omega arith } }

module _ (m : Machine) (g : GoodMachine m) (near : m.pc ≤ 4094) where
  reg_below : (x : ℕ) → reg m x < 256
  reg_below x = below_get (omega arith) g.v.below (x % 16)

  put_reg : (x b : ℕ) → b < 256 → Reached m (onward (with_reg x b m))
  put_reg x b h = keep_onward (keep_set (keep g) (x % 16) b h) near

  put_flag : (x b : ℕ) (f : Bool) → b < 256 → Reached m (onward (flagged x b f m))
  put_flag x b true h = keep_onward (keep_set (keep_set (keep g) _ _ (omega arith)) _ _ (omega arith)) near
  put_flag x b false h = keep_onward (keep_set (keep_set (keep g) _ _ (omega arith)) _ _ (omega arith)) near

  skip_if_law : (t : Bool) → Reached m (skip_if t m)
  skip_if_law true = keep_pc (keep g) _ (omega arith)
  skip_if_law false = keep_pc (keep g) _ (omega arith)

  skip_unless_law : (t : Bool) → Reached m (skip_unless t m)
  skip_unless_law true = keep_pc (keep g) _ (omega arith)
  skip_unless_law false = keep_pc (keep g) _ (omega arith)

  simple_reached : (s : Simple) (keys random : ℕ) → SimpleFits s → Reached m (simple s keys random m)
  simple_reached (Jump a) keys random f = keep_pc (keep g) _ (omega arith)
  simple_reached (JumpFrom a) keys random f = keep_pc (keep g) _ (omega (arith, reg_below 0))
  simple_reached (SkipEqual x kk) keys random f = skip_if_law (eqb (reg m x) kk)
  simple_reached (SkipDiffers x kk) keys random f = skip_unless_law (eqb (reg m x) kk)
  simple_reached (SkipSame x y) keys random f = skip_if_law (eqb (reg m x) (reg m y))
  simple_reached (SkipOther x y) keys random f = skip_unless_law (eqb (reg m x) (reg m y))
  simple_reached (SkipDown x) keys random f = skip_if_law (down keys (reg m x % 16))
  simple_reached (SkipUp x) keys random f = skip_unless_law (down keys (reg m x % 16))
  simple_reached (Put x kk) keys random f = put_reg x _ f
  simple_reached (Add x kk) keys random f = put_reg x _ (omega arith)
  simple_reached (Chance x kk) keys random f = put_reg x _ (omega (arith, and_le_r random kk))
  simple_reached (Copy x y) keys random f = put_reg x _ (reg_below y)
  simple_reached (Or x y) keys random f = put_flag x _ false (or_lt 8 (reg m x) (reg m y) (reg_below x) (reg_below y))
  simple_reached (And x y) keys random f = put_flag x _ false (and_lt 8 (reg m x) (reg m y) (reg_below x) (reg_below y))
  simple_reached (Plus x y) keys random f = put_flag x _ (ltb 255 (reg m x + reg m y)) (omega arith)
  simple_reached (Minus x y) keys random f = put_flag x _ (leb (reg m y) (reg m x)) (omega arith)
  simple_reached (Xor x y) keys random f = put_flag x _ false (xor_lt 8 (reg m x) (reg m y) (reg_below x) (reg_below y))
  simple_reached (Halve x y) keys random f = put_flag x _ (is_one 0 (reg m y)) (omega (arith, reg_below y))
  simple_reached (MinusFrom x y) keys random f = put_flag x _ (leb (reg m x) (reg m y)) (omega arith)
  simple_reached (Double x y) keys random f = put_flag x _ (is_one 7 (reg m y)) (omega arith)
  simple_reached (Index a) keys random f = keep_onward (keep_i (keep g) _ (omega arith)) near
  simple_reached (AddIndex x) keys random f = keep_onward (keep_i (keep g) _ (omega arith)) near
  simple_reached (Digit x) keys random f = keep_onward (keep_i (keep g) _ (omega (arith, reg_below x))) near
  simple_reached (FromDelay x) keys random f = put_reg x _ g.timers.delay
  simple_reached (ToDelay x) keys random f = keep_onward (keep_timers (keep g) _ (record { delay = reg_below x; tone = g.timers.tone })) near
  simple_reached (ToTone x) keys random f = keep_onward (keep_timers (keep g) _ (record { delay = g.timers.delay; tone = reg_below x })) near

  lowest : (left k keys : ℕ) → lowest_from left k keys ≤ k + left
  lowest zero k keys = omega arith
  lowest (suc left) k keys = choice (λ (n : ℕ). n ≤ k + suc left) (down keys k) (omega arith) (omega (arith, lowest left (k + 1) keys))

  awaited_reached : (x keys : ℕ) (w : Wait) → held_sound w ≡ true → Reached m (awaited x keys m w)
  awaited_reached x keys Idle h = choice (Reached m) (eqb keys 0) (keep g) (keep_wait (keep g) _ (le-leb _ 15 (lowest 15 0 keys)))
  awaited_reached x keys (Held k) h =
      choice (Reached m) (down keys k) (keep g) (keep_onward (keep_wait (keep_set (keep g) _ _ (omega (arith, leb-true k 15 h))) Idle refl) near)

-- ---- what an accepted action leads to

pub record Follows (c : Change) (b b' : Board) : Type 0 where
  pub good : GoodBoard b'
  pub undoable : Undoable c b b'

popped : (stack : List ℕ) (d e : ℕ) → d ≡ suc e → GoodCalls stack d → drop e (set stack e 0) ≡ zeroes (12 - e)
popped stack d e q c =
    let split = set_split stack e 0 (omega (arith, c.most, c.size)) in
    let size = length-take-le e stack (omega (arith, c.most, c.size)) in
    rw (split, drop_at (take e stack) (0 ∷ drop (suc e) stack) e size, ← q, c.unused)
    (ap zeroes {x = suc (12 - d)} {y = 12 - e} (omega (arith, c.most)))

module _ (m : Machine) (g : GoodMachine m) where
  called_reached : (a : ℕ) → a < 65536 → m.pc ≤ 4094 → m.depth < 12 → Reached m (called a m)
  called_reached a h near room =
      let c = g.calls in
      let d = m.depth in
      let last = m.pc + 2 in
      let unused : drop (d + 1) (set m.stack d last) ≡ zeroes (12 - (d + 1)) =
      rw (drop-set-lt (d + 1) m.stack d last (omega arith), ← drop-drop 1 d m.stack, c.unused, drop_zeros 1 (12 - d))
      (ap zeroes {x = 12 - d - 1} {y = 12 - (d + 1)} (omega arith)) in
      keep_pc
      (keep_calls (keep g) (set m.stack d last) (d + 1)
      (record { size = length-set m.stack d last ∙ c.size; below = below_set c.below d last (omega arith); most = omega arith; unused = unused })
      (record { same = take-set-le (d - 1) m.stack d last (omega arith); rise = omega arith; fall = omega arith }))
      a h

  returned_reached : 0 < m.depth → Reached m (returned m)
  returned_reached h =
      let c = g.calls in
      let e = m.depth - 1 in
      let unused = popped m.stack m.depth e (omega arith) c in
      keep_pc
      (keep_calls (keep g) (set m.stack e 0) e
      (record { size = length-set m.stack e 0 ∙ c.size; below = below_set c.below e 0 (omega arith); most = omega (arith, c.most); unused = unused })
      (record { same = take-set-le e m.stack e 0 (omega arith); rise = omega arith; fall = omega arith }))
      (get_or m.stack e 0) (below_get (omega arith) c.below e)

module _ (b : Board) (g : GoodBoard b) (m : Machine) (k : Reached b.machine m) where
  -- nothing but the state changed
  still : Follows Nothing b (record { machine = m; memory = b.memory; picture = b.picture })
  still =
      record {
        good = record { machine = k.good; memory = g.memory; picture = g.picture };
        undoable = record { fits = tt; only = (refl, refl); near = k.near };
      }

  -- bytes of memory changed
  storing : (new : List ℕ) (s n : ℕ) → Bytes n new → 1 ≤ n → n ≤ 16 → s + n ≤ b.machine.end
      → Follows (InMemory s n) b (record { machine = m; memory = over b.memory s new n; picture = b.picture })
  storing new s n h low high fit =
      let most : s + n ≤ 4096 = omega (arith, g.machine.end.most) in
      let room : s + n ≤ length b.memory = omega (arith, g.memory.size) in
      record {
        good = record {
          machine = k.good;
          memory = bytes_over g.memory h s most;
          picture = g.picture;
        };
        undoable = record {
          fits = (low, high, fit);
          only = (record { before = over_take b.memory new s n room h.size; behind = over_drop b.memory new s n room h.size }, refl);
          near = k.near;
        };
      }

  -- bytes of the picture changed
  painting : (picture : List ℕ) (s n : ℕ) → Bytes 256 picture → Outside s n b.picture picture → 1 ≤ n → s + n ≤ 256
      → Follows (InPicture s n) b (record { machine = m; memory = b.memory; picture = picture })
  painting picture s n h o low fit =
      record {
        good = record { machine = k.good; memory = g.memory; picture = h };
        undoable = record { fits = (low, omega arith, fit); only = (refl, o); near = k.near };
      }

pub past_fits : (m : Machine) (n : ℕ) → 0 < n → past m n ≡ 0 → m.i + n ≤ m.end
past_fits m n h e = leb-true (m.i + n) m.end (passed (leb (m.i + n) m.end) 5 0 (rw (ne_eqb n 0 (λ z. omega arith)) at e)).0

-- the rows that a pattern changes
module _ (b : Board) (g : GoodBoard b) (m : Machine) (k : Reached b.machine m)
    (pattern : List ℕ) (column row n : ℕ) (sized : length pattern ≡ n) (h : row < 32) where
  abbrev new : List ℕ
  new = drawn pattern column row b.picture

  rows : Outside (8 * row) (row_bytes n row) b.picture new
  rows = rw sized at (drawn_outside pattern column row b.picture g.picture h)

  drawing : (t : Bool) → eqb n 0 ≡ t
      → Follows (pick t Nothing (InPicture (8 * row) (row_bytes n row))) b (record { machine = m; memory = b.memory; picture = new })
  drawing true e =
      let no : 8 * row + row_bytes n row ≡ 8 * row = omega (arith, eqb-true n 0 e) in
      let same : new ≡ b.picture =
      sym (take-append-drop (8 * row) new) ∙ ap₂ ◌++◌ rows.before (rw no at rows.behind) ∙ take-append-drop (8 * row) b.picture in
      rw same (still b g m k)
  drawing false e =
      let some : 1 ≤ n = omega (arith, eqb-false n 0 e) in
      painting b g m k new (8 * row) (row_bytes n row) (drawn_bytes pattern column row b.picture g.picture) rows (omega arith) (omega arith)

pub pattern_length : (b : Board) (n : ℕ) → GoodBoard b → past b.machine n ≡ 0 → length (part b.memory b.machine.i n) ≡ n
pattern_length b zero g e = refl
pattern_length b (suc n) g e =
    part_length b.memory b.machine.i (suc n) (omega (arith, past_fits b.machine (suc n) (omega arith) e, g.memory.size, g.machine.end.most))

-- the number of lit spots plays no part in what can be undone
counted_only : (c : Change) (b d : Board) → Only c b d → Only c b (counted b d)
counted_only Nothing b d o = o
counted_only (InMemory s n) b d o = o
counted_only (InPicture s n) b d o = o

counted_follows : {c : Change} (b d : Board) → Follows c b d → lit_refusal b.machine.lit b.picture d.picture ≡ 0
    → Follows c b (counted b d)
counted_follows {c} b d f e =
    let u = f.undoable in
    record { good = counted_good b d f.good e; undoable = record { fits = u.fits; only = counted_only c b d u.only; near = u.near } }

-- the inputs play no part in the picture
pub picture_after_law : (op : Op) (keys random : ℕ) (m : Machine) (memory picture : List ℕ)
    → picture_after op m memory picture ≡ (after op keys random m memory picture).picture
unfolding after
picture_after_law (Plain s) keys random m memory picture = refl
picture_after_law (AwaitKey x) keys random m memory picture = refl
picture_after_law (Call a) keys random m memory picture = refl
picture_after_law Return keys random m memory picture = refl
picture_after_law Clear keys random m memory picture = refl
picture_after_law (Draw x y n) keys random m memory picture = refl
picture_after_law (Decimal x) keys random m memory picture = refl
picture_after_law (Store x) keys random m memory picture = refl
picture_after_law (Fetch x) keys random m memory picture = refl
picture_after_law Unlisted keys random m memory picture = refl
picture_after_law MachineCode keys random m memory picture = refl

-- a step whose late 10 does not occur, whatever its inputs
pub step_passes : (b : Board) (keys random : ℕ) → step_late b ≡ 0
    → lit_refusal b.machine.lit b.picture (after (op_at b) keys random b.machine b.memory b.picture).picture ≡ 0
step_passes b keys random e = rw (picture_after_law (op_at b) keys random b.machine b.memory b.picture) at e

module _ (b : Board) (g : GoodBoard b) where
  abbrev m : Machine
  m = b.machine

  same : Reached m m
  same = keep g.machine

  pub step_follows : (op : Op) (keys random : ℕ) → OpFits op → m.pc ≤ 4094 → refusal_of op m ≡ 0
      → Follows (change_of op m) b (after op keys random m b.memory b.picture)
  unfolding refusal_of change_of after
  step_follows (Plain s) keys random f near e = still b g _ (idle (simple_reached m g.machine near s keys random f))
  step_follows (AwaitKey x) keys random f near e = still b g _ (awaited_reached m g.machine near x keys m.wait g.machine.wait)
  step_follows (Call a) keys random f near e =
      still b g _ (idle (called_reached m g.machine a (omega arith) near (ltb-true m.depth 12 (passed (ltb m.depth 12) 3 0 e).0)))
  step_follows Return keys random f near e =
      still b g _ (idle (returned_reached m g.machine (ltb-true 0 m.depth (passed (ltb 0 m.depth) 4 0 e).0)))
  step_follows Clear keys random f near e =
      painting b g _ (idle (keep_onward same near)) (zeroes 256) 0 256
      (record { size = length-replicate {A = ℕ} 256 0; below = below_zeros 256 (omega arith) })
      (record { before = refl; behind = sym (drop_of_length-le b.picture {i = 256} (omega (arith, g.picture.size))) })
      (omega arith) (omega arith)
  step_follows (Draw x y n) keys random f near e =
      let pattern = part b.memory m.i n in
      let flag = ltb 0 (darkened pattern (column m x) (row m y) b.picture) in
      let bit = choice (λ (f : ℕ). f < 256) flag {p = 1} {q = 0} (omega arith) (omega arith) in
      drawing b g _ (idle (keep_onward (keep_set same _ (pick flag 1 0) bit) near))
      pattern (column m x) (row m y) n (pattern_length b n g e) (omega arith) (eqb n 0) refl
  step_follows (Decimal x) keys random f near e =
      let r : reg m x < 256 = reg_below m g.machine near x in
      storing b g _ (idle (keep_onward same near)) (digits_of (reg m x)) m.i 3
      (record { size = refl; below = more (omega arith) (more (omega arith) (more (omega arith) none)) })
      (omega arith) (omega arith) (past_fits m 3 (omega arith) e)
  step_follows (Store x) keys random f near e =
      let fit = past_fits m (up_to x) (omega arith) e in
      let size = length-take-le (up_to x) m.v (omega (arith, g.machine.v.size)) in
      storing b g _ (idle (keep_onward (keep_i same (m.i + up_to x) (omega (arith, g.machine.end.most))) near)) (take (up_to x) m.v) m.i (up_to x)
      (record { size = size; below = below_take g.machine.v.below (up_to x) }) (omega arith) (omega arith) fit
  step_follows (Fetch x) keys random f near e =
      let fit = past_fits m (up_to x) (omega arith) e in
      let v = part b.memory m.i (up_to x) ++ drop (up_to x) m.v in
      let size : length v ≡ 16 = simp (length-append, length-take, length-drop) (omega (arith, g.machine.v.size, g.memory.size, fit, g.machine.end.most)) in
      let below : Below 256 v =
      below_append (below_take (below_drop g.memory.below m.i) (up_to x)) (below_drop g.machine.v.below (up_to x)) in
      still b g _ (idle (keep_onward (keep_i (keep_v same v (record { size = size; below = below })) (m.i + up_to x) (omega (arith, g.machine.end.most))) near))
  step_follows Unlisted keys random f near e = absurd (not_zero 1 e)
  step_follows MachineCode keys random f near e = absurd (not_zero 2 e)

  pub tick_follows : Follows Nothing b (tick_board b)
  tick_follows =
      let t = g.machine.timers in
      still b g _ (keep_timers same (lowered m.timers) (record { delay = omega arith; tone = omega arith }))

  byte : (a : ℕ) → get_or b.memory a 0 < 256
  byte a = below_get (omega arith) g.memory.below a

  pub action_follows : (a : Action) → own_refusal a b ≡ 0 → Follows (change_by a b) b (board_by a b)
  action_follows (Step keys random) e =
      let (tests, late) = both_zero (step_tests b) (step_late b) e in
      let (before, ok) = passed (leb m.pc (m.end - 2)) 0 _ tests in
      let near : m.pc ≤ 4094 = omega (arith, leb-true m.pc (m.end - 2) before, g.machine.end.most) in
      counted_follows b (after (op_at b) keys random m b.memory b.picture)
      (step_follows (op_at b) keys random (decode_fits _ _ _ (byte m.pc) (byte (m.pc + 1))) near ok)
      (step_passes b keys random late)
  action_follows Tick e = tick_follows

  pub action_recounts : (a : Action) → own_refusal a b ≡ 0 → Recounts b (board_by a b)
  action_recounts (Step keys random) e =
      counted_recounts b (after (op_at b) keys random m b.memory b.picture) g.machine.lit
      (step_passes b keys random (both_zero (step_tests b) (step_late b) e).1)
  action_recounts Tick e = still_recounts b (tick_board b) g.machine.lit refl refl
