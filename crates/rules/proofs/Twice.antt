-- The proofs of what Twice claims: a spot turned over twice is as it was, and the order of two turns does not count; so it is with pictures.
use mathlib.Core.Path.{◌≡◌, refl, sym, ap, ◌∙◌}
use mathlib.Core.Logic.{◌↔◌}
use mathlib.Core.List.{List}
use Prim.Native.Nat.{ℕ, zero, suc, ◌-◌, ◌%◌, ◌<◌, min}
use native.Mathlib.Omega.{arith}
use lib.ListN.{length}
use lib.Seq.{get_or-set_same, get_or-set_other}
use lib.Bits.{differ}
use lib.Dec.{ltb}
use borrow.Author.Tests.{lt-ltb}
use Rattle.rules.specs.declared.Machine.{Machine}
use Rattle.rules.specs.declared.Op.{Op}
use Rattle.rules.specs.declared.Op.TheVariants.{Draw}
use Rattle.rules.specs.Number.{pick}
use Rattle.rules.specs.State.{reg}
use Rattle.rules.specs.Picture.{spot, shown, bytes_from, drawn, sum_from, darkened, lightened, lit_spots}
use Rattle.rules.specs.Memory.{part}
use Rattle.rules.specs.Step.{Board, column, row, counted, after}
use Rattle.rules.specs.World.{World, Answer, board_of}
use Rattle.rules.specs.Call.{step, step_refusal, stepped}
use Rattle.rules.specs.Typed.{TypedBoard}
use Rattle.rules.specs.Twice.{Meets, MeetsLit, MeetsDark, Touches, PutBack, Draws, pattern_at, At, Flags}
use Rattle.rules.specs.Twice.{DrawnTwice, EitherOrder, DrawsTwice, DrawsAgain}
use Rattle.rules.proofs.Choices.{by_test}
use Rattle.rules.proofs.Good.{Bytes}
use Rattle.rules.proofs.Drawn.{shown_lit}
use Rattle.rules.proofs.Lit.{far_kept}
use Rattle.rules.proofs.Spots.{spot_lit, by_spot, by_spots, drawn_spot, bytes_same, sum_same, whole, sum_is_some}
use Rattle.rules.proofs.Ready.{Ready, accepted_ready, step_accepted, ready_typed, step_ready}

-- ---- a spot turned over twice

turned_back : (s h : ℕ) → s < 2 → h < 2 → differ (differ s h) h ≡ s
turned_back = by_spots (λ (s h : ℕ). differ (differ s h) h ≡ s) refl refl refl refl

turned_both : (s h k : ℕ) → s < 2 → h < 2 → k < 2 → differ (differ s h) k ≡ differ (differ s k) h
turned_both s h k a b c =
    by_spot (λ (k : ℕ). differ (differ s h) k ≡ differ (differ s k) h)
    (by_spots (λ (s h : ℕ). differ (differ s h) 0 ≡ differ (differ s 0) h) refl refl refl refl s h a b)
    (by_spots (λ (s h : ℕ). differ (differ s h) 1 ≡ differ (differ s 1) h) refl refl refl refl s h a b) k c

-- it goes dark in the second turn where the first lit it
turned_dark : (s h : ℕ) → s < 2 → h < 2 → min (differ s h) h ≡ h - s
turned_dark = by_spots (λ (s h : ℕ). min (differ s h) h ≡ h - s) refl refl refl refl

-- ---- two drawings

drawn_is : (pattern : List ℕ) (column row : ℕ) (P : List ℕ)
    → drawn pattern column row P ≡ bytes_from (λ x y. differ (spot P x y) (shown pattern column row x y)) 256 0
unfolding drawn
drawn_is pattern column row P = refl

module _ (pattern : List ℕ) (column row : ℕ) (P : List ℕ) where
  abbrev bits : ℕ → ℕ → ℕ
  bits = shown pattern column row

  lit : (x y : ℕ) → bits x y < 2
  lit = shown_lit pattern column row

  at : (x y : ℕ) → x < 64 → y < 32 → spot (drawn pattern column row P) x y ≡ differ (spot P x y) (bits x y)
  at = drawn_spot pattern column row P

  -- a second drawing over it, of any pattern, by the spots before the first
  drawn_over : (p : List ℕ) (c r : ℕ)
      → drawn p c r (drawn pattern column row P) ≡ bytes_from (λ x y. differ (differ (spot P x y) (bits x y)) (shown p c r x y)) 256 0
  drawn_over p c r =
      drawn_is p c r (drawn pattern column row P)
      ∙ bytes_same _ _ (λ x y hx hy. ap (λ (s : ℕ). differ s (shown p c r x y)) (at x y hx hy)) 256 0 (omega arith)

  drawn_back : Bytes 256 P → drawn pattern column row (drawn pattern column row P) ≡ P
  drawn_back g =
      drawn_over pattern column row
      ∙ bytes_same _ _ (λ x y hx hy. turned_back _ _ (spot_lit P x y) (lit x y)) 256 0 (omega arith) ∙ whole P g

  dark_again : darkened pattern column row (drawn pattern column row P) ≡ lightened pattern column row P
  unfolding darkened lightened
  dark_again =
      sum_same _ _ (λ x y hx hy. ap (λ (s : ℕ). min s (bits x y)) (at x y hx hy) ∙ turned_dark _ _ (spot_lit P x y) (lit x y)) 2048 0
      (omega arith)

  -- ---- what a drawing meets

  meets_some : (f : ℕ → ℕ → ℕ) (so : ℕ) → ((x y : ℕ) → (0 < f x y) ↔ ((bits x y ≡ 1) × (spot P x y ≡ so)))
      → (0 < sum_from f 2048 0) ↔ Meets so pattern column row P
  meets_some f so same = (
    λ h. let o = (sum_is_some f 2048 refl).0 h in
        let (one, is) = (same o.x o.y).0 o.above in
        record { x = o.x; y = o.y; across = o.across; down = o.down; one = one; is = is },
    λ m. (sum_is_some f 2048 refl).1
        (record { x = m.x; y = m.y; across = m.across; down = m.down; above = (same m.x m.y).1 (m.one, m.is) }),
  )

  meets_lit : Touches pattern column row P ↔ MeetsLit pattern column row P
  unfolding darkened
  meets_lit =
      meets_some (λ x y. min (spot P x y) (bits x y)) 1
      (λ x y. let a = spot_lit P x y in let b = lit x y in (λ h. omega arith, λ h. omega arith))

  meets_dark : (0 < lightened pattern column row P) ↔ MeetsDark pattern column row P
  unfolding lightened
  meets_dark = meets_some (λ x y. bits x y - spot P x y) 0 (λ x y. let b = lit x y in (λ h. omega arith, λ h. omega arith))

  put_back : Bytes 256 P → PutBack pattern column row P
  put_back g = record { back = drawn_back g; first = meets_lit; second = rw dark_again meets_dark; number = dark_again }

pub drawn_twice : DrawnTwice
drawn_twice pattern column row P size below = put_back pattern column row P (record { size = size; below = below })

pub either_order : EitherOrder
either_order p q c r c' r' P =
    drawn_over p c r P q c' r'
    ∙ bytes_same _ _ (λ x y hx hy. turned_both _ _ _ (spot_lit P x y) (shown_lit p c r x y) (shown_lit q c' r' x y)) 256 0 (omega arith)
    ∙ sym (drawn_over q c' r' P p c r)

-- ---- a DXYN

-- a flag that is 1 where a number is above 0
flag_above : (d v : ℕ) {That : Type 0} → v ≡ pick (ltb 0 d) 1 0 → (0 < d) ↔ That → ((v ≡ 1) ↔ That) × ((That → ⊥) → v ≡ 0)
flag_above zero v e iff = ((λ one. absurd (omega arith), λ t. absurd (omega (arith, iff.1 t))), λ no. e)
flag_above (suc d) v e iff =
    let one : v ≡ 1 = rw (lt-ltb 0 (suc d) (omega arith)) at e in
    ((λ o. iff.0 (omega arith), λ t. one), λ no. absurd (no (iff.0 (omega arith))))

step_world : (keys random : ℕ) (w : World) → step_refusal w ≡ 0 → (step keys random w).world ≡ stepped keys random w
unfolding step
step_world keys random w e =
    by_test (λ (a : Answer). a.world ≡ stepped keys random w) (step_refusal w) 0 (λ z. refl) (λ ne. absurd (ne e))

module _ {x y n : ℕ} (w : World) (keys random : ℕ) (d : Draws x y n w) where
  abbrev m : Machine
  m = w.machine

  abbrev one : World
  one = (step keys random w).world

  drew : board_of one ≡ counted (board_of w) (after (Draw x y n) keys random m w.memory w.picture)
  unfolding stepped
  drew =
      ap board_of (step_world keys random w d.accepted)
      ∙ ap (λ (op : Op). counted (board_of w) (after op keys random m w.memory w.picture)) d.instruction

  drew_picture : one.picture ≡ drawn (pattern_at n w) (column m x) (row m y) w.picture
  unfolding after
  drew_picture = ap (λ (b : Board). b.picture) drew

  drew_flag : length m.v ≡ 16 → {That : Type 0} → At Touches x y n w ↔ That → Flags one That
  unfolding after
  drew_flag sixteen iff =
      let dark = darkened (pattern_at n w) (column m x) (row m y) w.picture in
      let flag = ap (λ (b : Board). reg b.machine 0xF) drew ∙ get_or-set_same m.v 15 _ 0 (omega arith) in
      let (one, else) = flag_above dark _ flag iff in
      record { one = one; else = else }

  -- it leaves the pattern, and every register but VF
  drew_pattern : pattern_at n one ≡ pattern_at n w
  unfolding after
  drew_pattern = ap (λ (b : Board). part b.memory b.machine.i n) drew

  drew_reg : (k : ℕ) → (k % 16 ≡ 0xF → ⊥) → reg one.machine k ≡ reg m k
  unfolding after
  drew_reg k other = ap (λ (b : Board). reg b.machine k) drew ∙ get_or-set_other m.v 15 (k % 16) _ 0 other

-- an accepted one finds a world that passes the tests
draws_ready : {x y n : ℕ} (w : World) → TypedBoard (board_of w) → Draws x y n w → Ready w
draws_ready w typed d = accepted_ready w typed (step_accepted w d.accepted)

-- ---- two of them

pub draws_twice : DrawsTwice
draws_twice x y n hx hy w u keys random keys' random' typed typed' d left d' =
    let pattern = left.pattern ∙ drew_pattern w keys random d in
    let vx : reg u.machine x ≡ reg w.machine x = left.vx ∙ drew_reg w keys random d x (λ e. omega arith) in
    let vy : reg u.machine y ≡ reg w.machine y = left.vy ∙ drew_reg w keys random d y (λ e. omega arith) in
    let picture = left.picture ∙ drew_picture w keys random d in
    let put = put_back (pattern_at n w) (column w.machine x) (row w.machine y) w.picture (draws_ready w typed d).good.picture in
    record {
      picture = drew_picture u keys' random' d' ∙ rw (pattern, vx, vy, picture) put.back;
      first = drew_flag w keys random d typed.machine.vs put.first;
      second = drew_flag u keys' random' d' typed'.machine.vs (rw (pattern, vx, vy, picture) put.second);
    }

pub draws_again : DrawsAgain
draws_again x y n hx hy w keys random keys' random' typed d d' =
    let one = (step keys random w).world in
    let erases =
    draws_twice x y n hx hy w one keys random keys' random' typed (ready_typed _ (step_ready w (draws_ready w typed d) keys random)) d
    (record { pattern = refl; vx = refl; vy = refl; picture = refl }) d' in
    (erases, omega (arith, far_kept.step keys random w, far_kept.step keys' random' one, ap lit_spots erases.picture))
