-- The lit spots of a picture counted byte by byte: so the bytes that a change leaves cancel out, and the number grows by what the changed
-- ones show after less before.
use mathlib.Core.Path.{◌≡◌, refl, sym, ap, ap₂, ◌∙◌}
use mathlib.Core.List.{List, [], ◌∷◌, ◌++◌}
use Prim.Native.Nat.{ℕ, zero, suc, ◌+◌, ◌*◌, ◌/◌, ◌%◌, ◌≤◌, ◌<◌}
use native.Mathlib.Nat.{zero-add, add-zero, suc-mul}
use native.Mathlib.Numerals.{add-one}
use native.Mathlib.Omega.{arith}
use lib.ListN.{length, get_or, take, drop}
use lib.Seq.{take-suc, take-length}
use lib.Count.{ones, ones_step}
use Rattle.rules.specs.declared.Action.{Action}
use Rattle.rules.specs.declared.Action.TheVariants.{Step, Tick}
use Rattle.rules.specs.declared.Change.{Change}
use Rattle.rules.specs.declared.Change.TheVariants.{Nothing, InMemory, InPicture}
use Rattle.rules.specs.Memory.{part}
use Rattle.rules.specs.Picture.{spot, sum_from, lit_spots}
use Rattle.rules.specs.Record.{change_at, picture_at, action_at}
use Rattle.rules.specs.Step.{Board, lit_after, lit_refusal, change_of}
use Rattle.rules.specs.World.{World, board_of}
use Rattle.rules.specs.Call.{op_at, change_by, own_refusal, acted, step_tests, step_late, step_refusal, stepped, back_refusal, last_record, undone}
use Rattle.rules.specs.Call.{forward_refusal, next_record, redone}
use Rattle.rules.specs.Typed.{Below, TypedBoard}
use Rattle.rules.specs.Lit.{lit_in, lit_of, Grows, TypedLitByChange}
use Rattle.rules.proofs.Choices.{both_zero}
use Rattle.rules.proofs.Good.{Bytes}
use Rattle.rules.proofs.Parts.{put_back, part_length, over_take, over_drop, below_get}
use Rattle.rules.proofs.Counted.{sum_add, lit_sum, after_is, lit_between}
use Rattle.rules.proofs.Spots.{spot_lit}
use Rattle.rules.proofs.Drawn.{number, same, half, odd, eight, old_byte}
use Rattle.rules.proofs.Undo.{Fits, Outside, Only}
use Rattle.rules.proofs.Follow.{action_follows, step_passes}
use Rattle.rules.proofs.Ready.{Ready, accepted_ready, step_accepted, back_accepted, forward_accepted, back_passed, forward_own}
use Rattle.rules.proofs.Ready.{last_place, last_usable, undone_ready}

-- ---- the 1 bits of a byte

ones_cons : (a u : ℕ) → u < 2 → ones (a * 2 + u) ≡ ones a + u
ones_cons a u h = ones_step (a * 2 + u) ∙ rw (half a u h, odd a u h) (omega arith)

ones_digits : (d : ℕ → ℕ) → ((j : ℕ) → d j < 2) → (n : ℕ) → ones (number 2 n d) ≡ number 1 n d
unfolding number ones
ones_digits d lits zero = refl
ones_digits d lits (suc n) = rw (ones_cons (number 2 n d) (d n) (lits n), ones_digits d lits n) (omega arith)

-- the sum over n spots, as the digits of a number to base 1
sum_number : (f : ℕ → ℕ → ℕ) (n s : ℕ) → sum_from f n s ≡ number 1 n (λ j. f ((s + j) % 64) ((s + j) / 64))
unfolding number
sum_number f zero s = refl
sum_number f (suc n) s = ap (λ (k : ℕ). sum_from f k s) (sym (add-one n)) ∙ sum_add f n 1 s ∙ omega (arith, sum_number f n s)

-- ---- a picture's bytes

pub lit_append : (a b : List ℕ) → lit_in (a ++ b) ≡ lit_in a + lit_in b
unfolding lit_in
lit_append [] b = sym (zero-add (lit_in b))
lit_append (x ∷ a) b = rw (lit_append a b) (omega arith)

module _ (P : List ℕ) (g : Bytes 256 P) where
  -- the eight spots of byte k
  byte_lit : (k : ℕ) → sum_from (spot P) 8 (k * 8) ≡ ones (get_or P k 0)
  byte_lit k =
      sum_number (spot P) 8 (k * 8) ∙ same 1 _ _ 8 (λ j l. ap₂ (spot P) (omega arith) (omega arith))
      ∙ sym (ones_digits (eight (spot P) k) (λ j. spot_lit P _ _) 8)
      ∙ ap ones (old_byte P (λ x y. 0) (below_get (omega arith) g.below) (λ x y. omega arith) k)

  first_lit : (c : ℕ) → c ≤ 256 → sum_from (spot P) (c * 8) 0 ≡ lit_in (take c P)
  unfolding lit_in
  first_lit zero h = refl
  first_lit (suc c) h =
      rw (
        suc-mul,
        sum_add (spot P) (c * 8) 8 0,
        first_lit c (omega arith),
        zero-add (c * 8),
        byte_lit c,
        take-suc P c 0 (omega (arith, g.size)),
        lit_append (take c P) (get_or P c 0 ∷ []),
        add-zero,
      )

  pub lit_bytes : lit_spots P ≡ lit_in P
  lit_bytes = lit_sum P ∙ first_lit 256 (omega arith) ∙ ap lit_in (rw g.size at (take-length P))

  -- before, within and behind n of them from s on
  lit_parts : (s n : ℕ) → lit_spots P ≡ lit_in (take s P) + lit_in (part P s n) + lit_in (drop (s + n) P)
  lit_parts s n =
      lit_bytes ∙ ap lit_in (sym (put_back P P s n refl refl)) ∙ lit_append (take s P ++ part P s n) (drop (s + n) P)
      ∙ ap (λ (k : ℕ). k + lit_in (drop (s + n) P)) (lit_append (take s P) (part P s n))

-- two pictures that differ only there
pub lit_outside : (P Q : List ℕ) → Bytes 256 P → Bytes 256 Q → (s n : ℕ) → Outside s n P Q
    → lit_spots Q + lit_in (part P s n) ≡ lit_spots P + lit_in (part Q s n)
lit_outside P Q g h s n o =
    omega (arith, lit_parts P g s n, lit_parts Q h s n, ap lit_in o.before, ap lit_in o.behind)

-- and two of which a change tells where they differ
abbrev Differ : Change → List ℕ → List ℕ → Type 0
Differ Nothing P Q = Q ≡ P
Differ (InMemory s n) P Q = Q ≡ P
Differ (InPicture s n) P Q = Outside s n P Q

lit_differ : (c : Change) (P Q : List ℕ) → Bytes 256 P → Bytes 256 Q → Differ c P Q → lit_spots Q + lit_of c P ≡ lit_spots P + lit_of c Q
lit_differ Nothing P Q g h d = rw d
lit_differ (InMemory s n) P Q g h d = rw d
lit_differ (InPicture s n) P Q g h d = lit_outside P Q g h s n d

-- ---- a step and a step back

only_differ : (c : Change) (b b' : Board) → Only c b b' → Differ c b.picture b'.picture
only_differ Nothing b b' o = o.1
only_differ (InMemory s n) b b' o = o.1
only_differ (InPicture s n) b b' o = o.1

restored_differ : (end : ℕ) (c : Change) (r P : List ℕ) → Bytes 292 r → Bytes 256 P → Fits end c → Differ c P (picture_at c r P)
restored_differ end Nothing r P h g f = refl
restored_differ end (InMemory s n) r P h g f = refl
restored_differ end (InPicture s n) r P h g f =
    let sized = part_length r 32 n (omega (arith, f, h.size)) in
    let room : s + n ≤ length P = omega (arith, f, g.size) in
    record { before = over_take P (part r 32 n) s n room sized; behind = over_drop P (part r 32 n) s n room sized }

-- a number that is counted, and passes
grows : (c : Change) (n : ℕ) (P Q : List ℕ) → Bytes 256 P → Bytes 256 Q → Differ c P Q → lit_refusal n P Q ≡ 0
    → lit_after n P Q + lit_of c P ≡ n + lit_of c Q
grows c n P Q g h d e = rw (after_is n P Q) (omega (arith, lit_differ c P Q g h d, lit_between n P Q e))

module _ (w : World) (t : TypedBoard (board_of w)) where
  abbrev b : Board
  b = board_of w

  acted_grows : (a : Action) → Ready w → own_refusal a b ≡ 0 → Grows (change_by a b) w (acted a w)
  acted_grows (Step keys random) ready e =
      let f = action_follows b ready.good (Step keys random) e in
      let c = change_of (op_at b) w.machine in
      grows c w.machine.lit w.picture _ ready.good.picture f.good.picture (only_differ c b _ f.undoable.only)
      (step_passes b keys random (both_zero (step_tests b) (step_late b) e).1)
  acted_grows Tick ready e = refl

  step_grows : (keys random : ℕ) → step_refusal w ≡ 0 → Grows (change_of (op_at b) w.machine) w (stepped keys random w)
  unfolding stepped
  step_grows keys random e = let a = step_accepted w e in acted_grows (Step keys random) (accepted_ready w t a) a.rest

  forward_grows : forward_refusal w ≡ 0 → let a = action_at (next_record w) in Grows (change_by a b) w (redone a w)
  unfolding redone
  forward_grows e = acted_grows (action_at (next_record w)) (accepted_ready w t (forward_accepted w e)) (forward_own w e)

  back_grows : Below 256 w.history → back_refusal w ≡ 0 → Grows (change_at (last_record w)) w (undone (last_record w) w)
  unfolding undone
  back_grows bytes e =
      let ready = accepted_ready w t (back_accepted w e) in
      let r = last_record w in
      let c = change_at r in
      grows c w.machine.lit w.picture (picture_at c r w.picture) ready.good.picture (undone_ready w ready bytes e).good.picture
      (restored_differ w.machine.end c r w.picture (last_place w ready bytes) ready.good.picture (last_usable w e).fits)
      (back_passed w e).2

pub lit_by_change : TypedLitByChange
lit_by_change w t = record { step = step_grows w t; back = back_grows w t; forward = forward_grows w t }
