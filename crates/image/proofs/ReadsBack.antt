-- There and back: an image that is read and written again is the same bytes, and a state that is written and read again the same state.
use mathlib.Core.Path.{◌≡◌, refl, sym, ap, ◌∙◌}
use mathlib.Core.Bool.{true, ◌&&◌, and-eq-true_iff}
use mathlib.Core.List.{List, [], ◌∷◌, ◌++◌, append_assoc, append-nil}
use Prim.Native.Nat.{ℕ, zero, suc, ◌+◌, ◌/◌, ◌%◌, ◌≤◌, ◌<◌}
use native.Mathlib.Nat.{add-zero}
use native.Mathlib.Numerals.{add-one}
use native.Mathlib.Omega.{arith}
use lib.ListN.{length, get_or, take, drop, replicate, take-append-drop, drop_of_length-le, length-append, length-drop}
use lib.Dec.{eqb, leb}
use lib.Seq.{drop-cons, drop-drop, take_at, drop_at}
use borrow.Author.Tests.{leb-true, eqb-true}
use Rattle.rules.specs.declared.Edition.{Edition}
use Rattle.rules.specs.declared.Edition.TheVariants.{First, Second}
use Rattle.rules.specs.declared.Machine.{Machine}
use Rattle.rules.specs.declared.Trail.{Trail}
use Rattle.rules.specs.State.{zeros}
use Rattle.rules.specs.Record.{byte_at, word_at, held_byte}
use Rattle.rules.specs.Typed.{Below}
use Rattle.rules.proofs.Choices.{by_test}
use Rattle.rules.proofs.Parts.{zeroes, below_get}
use Rattle.rules.proofs.Sound.{zeros_are, sound_good}
use Rattle.rules.proofs.Back.{past, word_back}
use Rattle.rules.proofs.Undo.{wait_back}
use Rattle.rules.specs.Memory.{part}
use Rattle.image.specs.Image.{image_of, machine_of, trail_of, wait_of, depth_of, middle, six_from, numbers, tail, stack_of}
use Rattle.image.specs.Image.{edition_byte, edition_of, in_order}
use Rattle.image.specs.Image.{ReadsBack, Storable, ComesBack}

-- ---- an image is its bytes

-- n elements of a list from k on
bytes : ℕ → ℕ → List ℕ → List ℕ
bytes zero k b = []
bytes (suc n) k b = byte_at b k ∷ bytes n (k + 1) b

-- what is left of a list begins with its next bytes
unroll : (n k : ℕ) (b : List ℕ) → k + n ≤ length b → drop k b ≡ bytes n k b ++ drop (k + n) b
unfolding bytes
unroll zero k b h = rw add-zero
unroll (suc n) k b h =
    let e : k + suc n ≡ k + 1 + n = omega arith in
    rw (drop-cons b k 0 (omega arith), e, ← add-one k) (ap (λ (l : List ℕ). byte_at b k ∷ l) (unroll n (k + 1) b (omega arith)))

held_back : (x : ℕ) → held_byte (wait_of x) ≡ x
held_back x = by_test (λ w. held_byte w ≡ x) x 0xFF (λ e. sym e) (λ ne. refl)

edition_back : (x : ℕ) → x ≤ 1 → edition_byte (edition_of x) ≡ x
edition_back x h = by_test (λ e. edition_byte e ≡ x) x 1 (λ e. sym e) (λ ne. omega arith)

module _ (b : List ℕ) (small : Below 256 b) where
  byte_small : (k : ℕ) → byte_at b k < 256
  byte_small k = below_get (omega arith) small k

  high : (k : ℕ) → word_at b k / 256 % 256 ≡ byte_at b k
  high k = omega (arith, byte_small k, byte_small (k + 1))

  low : (k : ℕ) → word_at b k % 256 ≡ byte_at b (k + 1)
  low k = omega (arith, byte_small k, byte_small (k + 1))

  whole : length b ≡ 64 → zeros (drop 60 b) ≡ true → b ≡ take 16 b ++ (bytes 44 16 b ++ zeroes 4)
  whole size clear =
      let left : length (drop 60 b) ≡ 4 = simp (length-drop, size) in
      sym (take-append-drop 16 b)
      ∙ ap (λ (l : List ℕ). take 16 b ++ l) (unroll 44 16 b (omega arith) ∙ ap (λ (l : List ℕ). bytes 44 16 b ++ l) (zeros_are (drop 60 b) clear ∙ ap zeroes left))

to_the_right : (x m s u n z : List ℕ) → x ++ m ++ s ++ u ++ n ++ z ≡ x ++ (m ++ (s ++ (u ++ (n ++ z))))
to_the_right x m s u n z = simp append_assoc

pub reads_back : ReadsBack
unfolding image_of machine_of trail_of bytes
reads_back b size small order =
    let m = machine_of b in
    let (front, clear) = (and-eq-true_iff (leb (byte_at b 52) 1 && eqb (byte_at b 53) 0) (zeros (drop 60 b))).0 order in
    let (known, unused) = (and-eq-true_iff (leb (byte_at b 52) 1) (eqb (byte_at b 53) 0)).0 front in
    let none = sym (eqb-true (byte_at b 53) 0 unused) in
    let high = high b small in
    let low = low b small in
    let depth : depth_of b ≡ byte_at b 20 = rw order in
    to_the_right (part b 0 16) (middle m) (six_from 0 m.stack) (six_from 6 m.stack) (numbers (trail_of b)) (tail m (trail_of b))
    ∙ (λ i. part b 0 16 ++ (
    high 16 i ∷ low 16 i ∷ high 18 i ∷ low 18 i ∷ depth i ∷ byte_at b 21 ∷ byte_at b 22 ∷ held_back (byte_at b 23) i ∷
    high 24 i ∷ low 24 i ∷ high 26 i ∷ low 26 i ∷ high 28 i ∷ low 28 i ∷ high 30 i ∷ low 30 i ∷
    high 32 i ∷ low 32 i ∷ high 34 i ∷ low 34 i ∷ high 36 i ∷ low 36 i ∷ high 38 i ∷ low 38 i ∷
    high 40 i ∷ low 40 i ∷ high 42 i ∷ low 42 i ∷ high 44 i ∷ low 44 i ∷ high 46 i ∷ low 46 i ∷
    high 48 i ∷ low 48 i ∷ high 50 i ∷ low 50 i ∷ edition_back (byte_at b 52) (leb-true _ _ known) i ∷ none i ∷ high 54 i ∷ low 54 i ∷
    high 56 i ∷ low 56 i ∷ high 58 i ∷ low 58 i ∷ zeroes 4))
    ∙ sym (whole b small size clear)

-- ---- a state that its image holds whole

module _ (m : Machine) (t : Trail) (h : Storable m t) where
  abbrev image : List ℕ
  image = image_of m t

  -- what stands behind the variables
  abbrev rest : List ℕ
  rest = middle m ++ (six_from 0 m.stack ++ (six_from 6 m.stack ++ (numbers t ++ tail m t)))

  split : image ≡ m.v ++ rest
  unfolding image_of
  split = to_the_right m.v (middle m) (six_from 0 m.stack) (six_from 6 m.stack) (numbers t) (tail m t)

  at : (k : ℕ) → byte_at image (16 + k) ≡ byte_at rest k
  at k = ap (λ (b : List ℕ). byte_at b (16 + k)) split ∙ past m.v rest 16 k h.typed.vs

  ends : drop 60 image ≡ replicate 4 0
  unfolding image_of
  ends =
      let front = m.v ++ middle m ++ six_from 0 m.stack ++ six_from 6 m.stack ++ numbers t in
      sym (drop-drop 8 52 image) ∙ ap (drop 8) (drop_at front (tail m t) 52 (simp (length-append, h.typed.vs)))

  edition_known : (e : Edition) → leb (edition_byte e) 1 ≡ true
  edition_known First = refl
  edition_known Second = refl

  order : in_order image ≡ true
  order = rw (at 36, at 37, ends, edition_known m.edition)

  entry : (k : ℕ) → get_or m.stack k 0 < 65536
  entry k = below_get (omega arith) h.typed.stack k

  -- a list of twelve is its twelve elements
  twelve : bytes 12 0 m.stack ≡ m.stack
  twelve =
      let none : drop 12 m.stack ≡ [] = drop_of_length-le m.stack {i = 12} (omega (arith, h.typed.entries)) in
      sym (unroll 12 0 m.stack (omega (arith, h.typed.entries)) ∙ ap (λ (l : List ℕ). bytes 12 0 m.stack ++ l) none ∙ append-nil (bytes 12 0 m.stack))

  word_at_law : (k j : ℕ) → byte_at image k ≡ get_or m.stack j 0 / 256 % 256 → byte_at image (k + 1) ≡ get_or m.stack j 0 % 256
      → word_at image k ≡ get_or m.stack j 0
  word_at_law k j high low = word_back image k (get_or m.stack j 0) high low (entry j)

  stack_back : stack_of image ≡ m.stack
  unfolding bytes
  stack_back =
      let words : stack_of image ≡ bytes 12 0 m.stack = λ i.
      word_at_law 24 0 (at 8) (at 9) i ∷ word_at_law 26 1 (at 10) (at 11) i ∷ word_at_law 28 2 (at 12) (at 13) i ∷ word_at_law 30 3 (at 14) (at 15) i
      ∷ word_at_law 32 4 (at 16) (at 17) i ∷ word_at_law 34 5 (at 18) (at 19) i ∷ word_at_law 36 6 (at 20) (at 21) i ∷ word_at_law 38 7 (at 22) (at 23) i
      ∷ word_at_law 40 8 (at 24) (at 25) i ∷ word_at_law 42 9 (at 26) (at 27) i ∷ word_at_law 44 10 (at 28) (at 29) i ∷ word_at_law 46 11 (at 30) (at 31) i
      ∷ [] in
      words ∙ twelve

  depth_back : depth_of image ≡ m.depth
  depth_back = rw order (at 4)

edition_kept : (e : Edition) → edition_of (edition_byte e) ≡ e
edition_kept First = refl
edition_kept Second = refl

pub comes_back : ComesBack
unfolding machine_of trail_of
comes_back m t h =
    let b = image_of m t in
    let at = at m t h in
    let v : part b 0 16 ≡ m.v = ap (λ (l : List ℕ). take 16 l) (split m t h) ∙ take_at m.v (rest m t h) 16 h.typed.vs in
    let i = word_back b 16 m.i (at 0) (at 1) h.typed.i in
    let pc = word_back b 18 m.pc (at 2) (at 3) h.typed.pc in
    let stack = stack_back m t h in
    let depth = depth_back m t h in
    let delay : byte_at b 21 ≡ m.timers.delay = at 5 in
    let tone : byte_at b 22 ≡ m.timers.tone = at 6 in
    let wait : wait_of (byte_at b 23) ≡ m.wait = ap wait_of (at 7) ∙ wait_back m.wait (sound_good m h.typed h.sound).wait in
    let edition : edition_of (byte_at b 52) ≡ m.edition = ap edition_of (at 36) ∙ edition_kept m.edition in
    let lit = word_back b 56 m.lit (at 40) (at 41) h.typed.lit in
    let end = word_back b 58 m.end (at 42) (at 43) h.typed.end in
    let next = word_back b 48 t.next (at 32) (at 33) h.next in
    let kept = word_back b 50 t.kept (at 34) (at 35) h.kept in
    let ahead = word_back b 54 t.ahead (at 38) (at 39) h.ahead in (
      λ j. record {
        v = v j;
        i = i j;
        pc = pc j;
        stack = stack j;
        depth = depth j;
        timers = record { delay = delay j; tone = tone j };
        wait = wait j;
        edition = edition j;
        lit = lit j;
        end = end j;
      },
      λ j. record { next = next j; kept = kept j; ahead = ahead j },
    )
