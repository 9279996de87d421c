-- A digit is one of sixteen; and what holds of every instruction that a digit can stand for holds of the one that two bytes are.
use mathlib.Core.Path.{◌≡◌, refl, sym, ap, ◌∙◌}
use mathlib.Core.Bool.{Bool, true, false, ◌&&◌, true≢false}
use Prim.Native.Nat.{ℕ, zero, suc, ◌+◌, ◌/◌, ◌%◌, ◌≤◌, ◌<◌}
use native.Mathlib.Omega.{arith}
use lib.Dec.{eqb}
use borrow.Author.Tests.{eqb-true, eqb-false}
use Rattle.rules.specs.declared.Edition.{Edition}
use Rattle.rules.specs.declared.Edition.TheVariants.{First, Second}
use Rattle.rules.specs.declared.Op.{Op}
use Rattle.rules.specs.declared.Op.TheVariants.{Plain, AwaitKey, Return, Clear, Draw, Decimal, Store, Fetch}
use Rattle.rules.specs.declared.Op.TheVariants.{Unlisted, MachineCode}
use Rattle.rules.specs.declared.Simple.{Simple}
use Rattle.rules.specs.declared.Simple.TheVariants.{FromDelay, ToDelay, ToTone, AddIndex, Digit}
use Rattle.rules.specs.Number.{pick, is_one}
use Rattle.rules.specs.Instruction.{zero_op, in_second, sum_op, key_op, other_op, op_of, decode}
use Rattle.rules.proofs.Choices.{choice, by_test}
use Rattle.decode.specs.declared.Way.{Way}
use Rattle.decode.specs.declared.Way.TheVariants as way
use Rattle.decode.specs.Ways.{way_of, listed_digits, plain_digits}

-- ---- numbers from k on, n of them

abbrev Each : (ℕ → Type 0) → ℕ → ℕ → Type 0
Each P k zero = Unit {0}
Each P k (suc n) = P k × Each P (suc k) n

pick_digit : (P : ℕ → Type 0) (d k : ℕ) → P k → ((d ≡ k → ⊥) → P d) → (t : Bool) → eqb d k ≡ t → P d
pick_digit P d k here later true e = rw (eqb-true d k e) here
pick_digit P d k here later false e = later (eqb-false d k e)

each : (P : ℕ → Type 0) (k n d : ℕ) → Each P k n → k ≤ d → d < k + n → P d
each P k zero d h l m = absurd (omega arith)
each P k (suc n) d h l m = pick_digit P d k h.0 (λ ne. each P (suc k) n d h.1 (omega arith) (omega arith)) (eqb d k) refl

pub digit : (P : ℕ → Type 0) → P 0 → P 1 → P 2 → P 3 → P 4 → P 5 → P 6 → P 7 → P 8 → P 9 → P 10 → P 11 → P 12 → P 13 → P 14 → P 15
    → (d : ℕ) → d < 16 → P d
digit P a b c d e f g h i j k l m n o p x below =
    each P 0 16 x
    (a, (b, (c, (d, (e, (f, (g, (h, (i, (j, (k, (l, (m, (n, (o, (p, tt))))))))))))))))
    (omega arith) below

-- ---- the ways differ

abbrev order : Way → ℕ
order way.Plain = 0
order way.Quiet = 1
order way.Drawing = 2
order way.Other = 3

-- what holds of an instruction where it takes that way
abbrev pub On : Way → (Op → Type 0) → Op → Type 0
On w P op = way_of op ≡ w → P op

pub elsewhere : {v w : Way} {A : Type 0} → eqb (order v) (order w) ≡ false → v ≡ w → A
elsewhere {v} {w} ne e = absurd (eqb-false (order v) (order w) ne (ap order e))

-- a drawing is quiet only where it has no rows, and takes no other way
pub no_rows : (none : Bool) → pick none way.Quiet way.Drawing ≡ way.Quiet → none ≡ true
no_rows true e = refl
no_rows false e = elsewhere refl e

pub drawing_apart : (none : Bool) {A : Type 0} → pick none way.Quiet way.Drawing ≡ way.Other → A
drawing_apart true e = elsewhere refl e
drawing_apart false e = elsewhere refl e

-- ---- 8XYN

pub in_second_law : (P : Op → Type 0) (edition : Edition) (s : Simple) → P (Plain s) → P Unlisted → P (in_second edition (Plain s))
in_second_law P First s p u = u
in_second_law P Second s p u = p

pub sum_way : (edition : Edition) (x y n : ℕ) → n < 16 → way_of (sum_op edition x y n) ≡ pick (is_one n (listed_digits edition)) way.Plain way.Other
sum_way First x y =
    digit (λ n. way_of (sum_op First x y n) ≡ pick (is_one n (listed_digits First)) way.Plain way.Other)
    refl refl refl refl refl refl refl refl refl refl refl refl refl refl refl refl
sum_way Second x y =
    digit (λ n. way_of (sum_op Second x y n) ≡ pick (is_one n (listed_digits Second)) way.Plain way.Other)
    refl refl refl refl refl refl refl refl refl refl refl refl refl refl refl refl

-- ---- one look

no : {A : Type 0} → false ≡ true → A
no e = absurd (true≢false (sym e))

module _ (edition : Edition) (hi x y n kk a : ℕ) where
  abbrev op : ℕ → Op
  op d = op_of hi d x y n kk a (sum_op edition x y n)

  first_told : (d : ℕ) → d < 16 → is_one d plain_digits ≡ true → way.Plain ≡ way_of (op d)
  first_told =
      digit (λ d. is_one d plain_digits ≡ true → way.Plain ≡ way_of (op d))
      no (λ e. refl) no (λ e. refl) (λ e. refl) no (λ e. refl) (λ e. refl) no no (λ e. refl) (λ e. refl) (λ e. refl) no no no

  pub told : (d : ℕ) → d < 16 → n < 16 → is_one (pick (eqb d 8) n d) (pick (eqb d 8) (listed_digits edition) plain_digits) ≡ true → way.Plain ≡ way_of (op d)
  told d below last = go (eqb d 8) refl
    where
      go : (t : Bool) → eqb d 8 ≡ t → is_one (pick t n d) (pick t (listed_digits edition) plain_digits) ≡ true → way.Plain ≡ way_of (op d)
      go true e one = rw (eqb-true d 8 e) (sym (rw one at (sum_way edition x y n last)))
      go false e one = first_told d below one

-- and a first digit that tells nothing is one of these
pub left : (d : ℕ) → d < 16 → is_one d plain_digits ≡ false
    → (d ≡ 0 → ⊥) → (d ≡ 2 → ⊥) → (d ≡ 5 → ⊥) → (d ≡ 8 → ⊥) → (d ≡ 9 → ⊥) → (d ≡ 13 → ⊥) → (d ≡ 14 → ⊥) → (d ≡ 15 → ⊥) → ⊥
left d below dark n₀ n₂ n₅ n₈ n₉ n₁₃ n₁₄ n₁₅ =
    digit (λ k. d ≡ k → ⊥)
    n₀ (told_by 1 refl) n₂ (told_by 3 refl) (told_by 4 refl) n₅ (told_by 6 refl) (told_by 7 refl) n₈ n₉ (told_by 10 refl) (told_by 11 refl) (told_by 12 refl)
    n₁₃ n₁₄ n₁₅ d below refl
  where
    told_by : (k : ℕ) → is_one k plain_digits ≡ true → d ≡ k → ⊥
    told_by k one e = true≢false (sym one ∙ rw e at dark)

-- ---- an instruction on a way, by the first digit

module _ (w : Way) (P : Op → Type 0) where
  abbrev Q : Op → Type 0
  Q = On w P

  -- 0MMM
  pub on_zero : (hi lo : ℕ) → Q Clear → Q Return → Q MachineCode → Q (zero_op hi lo)
  on_zero hi lo clear return code = choice Q (eqb hi 0x00 && eqb lo 0xE0) clear (choice Q (eqb hi 0x00 && eqb lo 0xEE) return code)

  -- a skip that is listed where its last digit is 0
  pub on_skip : (n : ℕ) (s : Simple) → Q (Plain s) → Q Unlisted → Q (pick (eqb n 0) (Plain s) Unlisted)
  on_skip n s p u = choice Q (eqb n 0) p u

  pub on_sum : (edition : Edition) (x y n : ℕ) → ((s : Simple) → Q (Plain s)) → Q Unlisted → Q (sum_op edition x y n)
  on_sum edition x y n p u =
      choice Q (eqb n 0x0) (p _) (choice Q (eqb n 0x1) (p _) (choice Q (eqb n 0x2) (p _) (choice Q (eqb n 0x4) (p _) (choice Q (eqb n 0x5) (p _)
      (choice Q (eqb n 0x3) (second _) (choice Q (eqb n 0x6) (second _) (choice Q (eqb n 0x7) (second _) (choice Q (eqb n 0xE) (second _) u))))))))
    where
      second : (s : Simple) → Q (in_second edition (Plain s))
      second s = in_second_law Q edition s (p s) u

  pub on_key : (x kk : ℕ) → ((s : Simple) → Q (Plain s)) → Q Unlisted → Q (key_op x kk)
  on_key x kk p u = choice Q (eqb kk 0x9E) (p _) (choice Q (eqb kk 0xA1) (p _) u)

  -- each where its number is the second byte
  pub on_other : (x kk : ℕ) → (kk ≡ 0x07 → Q (Plain (FromDelay x))) → (kk ≡ 0x0A → Q (AwaitKey x)) → (kk ≡ 0x15 → Q (Plain (ToDelay x)))
      → (kk ≡ 0x18 → Q (Plain (ToTone x))) → (kk ≡ 0x1E → Q (Plain (AddIndex x))) → (kk ≡ 0x29 → Q (Plain (Digit x))) → (kk ≡ 0x33 → Q (Decimal x))
      → (kk ≡ 0x55 → Q (Store x)) → (kk ≡ 0x65 → Q (Fetch x)) → Q Unlisted → Q (other_op x kk)
  on_other x kk from-delay await to-delay to-tone add digit decimal store fetch u =
      by_test Q kk 0x07 from-delay (λ a. by_test Q kk 0x0A await (λ b. by_test Q kk 0x15 to-delay (λ c. by_test Q kk 0x18 to-tone
      (λ d. by_test Q kk 0x1E add (λ e. by_test Q kk 0x29 digit (λ f. by_test Q kk 0x33 decimal (λ g. by_test Q kk 0x55 store
      (λ h. by_test Q kk 0x65 fetch (λ i. u)))))))))

-- a drawing is what its digits say
module _ (edition : Edition) (hi lo : ℕ) where
  abbrev Drawn : Op → Type 0
  Drawn op = op ≡ Draw (hi % 16) (lo / 16) (lo % 16)

  abbrev D : Op → Type 0
  D = On way.Drawing Drawn

  none : (s : Simple) → D (Plain s)
  none s e = elsewhere refl e

  unlisted : D Unlisted
  unlisted e = elsewhere refl e

  zeros : D (zero_op hi lo)
  zeros = on_zero way.Drawing Drawn hi lo (λ e. elsewhere refl e) (λ e. elsewhere refl e) (λ e. elsewhere refl e)

  skips : (s : Simple) → D (pick (eqb (lo % 16) 0) (Plain s) Unlisted)
  skips s = on_skip way.Drawing Drawn (lo % 16) s (none s) unlisted

  sums : D (sum_op edition (hi % 16) (lo / 16) (lo % 16))
  sums = on_sum way.Drawing Drawn edition (hi % 16) (lo / 16) (lo % 16) none unlisted

  others : D (other_op (hi % 16) lo)
  others =
      on_other way.Drawing Drawn (hi % 16) lo (λ k. none _) (λ k e. elsewhere refl e) (λ k. none _) (λ k. none _) (λ k. none _) (λ k. none _)
      (λ k e. elsewhere refl e) (λ k e. elsewhere refl e) (λ k e. elsewhere refl e) unlisted

  pub draws : way_of (decode edition hi lo) ≡ way.Drawing → Drawn (decode edition hi lo)
  unfolding decode
  draws =
      let d = hi / 16 in
      choice D (eqb d 0x0) zeros (choice D (eqb d 0x1) (none _) (choice D (eqb d 0x2) (λ e. elsewhere refl e) (choice D (eqb d 0x3) (none _)
      (choice D (eqb d 0x4) (none _) (choice D (eqb d 0x5) (skips _) (choice D (eqb d 0x6) (none _) (choice D (eqb d 0x7) (none _)
      (choice D (eqb d 0x8) sums (choice D (eqb d 0x9) (skips _) (choice D (eqb d 0xA) (none _) (choice D (eqb d 0xB) (none _)
      (choice D (eqb d 0xC) (none _) (choice D (eqb d 0xD) (λ e. refl)
      (choice D (eqb d 0xE) (on_key way.Drawing Drawn (hi % 16) lo none unlisted) others))))))))))))))
