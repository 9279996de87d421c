-- A step of a world that passed the tests 9 and 10: what it gives where it is refused, what its parts ask, and what they make together.
use mathlib.Core.Path.{◌≡◌, refl, sym, ap, ◌∙◌}
use mathlib.Core.List.{List, []}
use Prim.Native.Nat.{ℕ, ◌+◌, ◌-◌, ◌*◌, ◌≤◌, ◌<◌}
use native.Mathlib.Omega.{arith}
use lib.Dec.{eqb}
use lib.ListN.{length}
use borrow.Author.Tests.{le-leb, lt-leb, eq-eqb, ne_eqb}
use Rattle.rules.specs.declared.Action.{Action}
use Rattle.rules.specs.declared.Action.TheVariants.{Step}
use Rattle.rules.specs.declared.Machine.{Machine}
use Rattle.rules.specs.declared.Trail.{Trail}
use Rattle.rules.specs.declared.Change.TheVariants.{Nothing}
use Rattle.rules.specs.declared.Op.{Op}
use Rattle.rules.specs.declared.Op.TheVariants.{Plain, AwaitKey, Call, Return, Clear, Draw, Decimal, Store, Fetch}
use Rattle.rules.specs.declared.Op.TheVariants.{Unlisted, MachineCode}
use Rattle.rules.specs.declared.Simple.{Simple}
use Rattle.std.specs.Prelude.{Result, Ok, Err}
use Rattle.rules.specs.declared.Refusal.{Refusal}
use Rattle.rules.specs.declared.Refusal.TheVariants.{PcPastEnd}
use Rattle.rules.specs.Number.{or_later}
use Rattle.rules.specs.Refusal.{number, number_of}
use Rattle.rules.specs.Memory.{over}
use Rattle.rules.specs.Record.{old, count, record_with, record_of}
use Rattle.rules.specs.Rows.{bytes_of}
use Rattle.rules.specs.Step.{refusal_of, lit_refusal, change_of, after, picture_after}
use Rattle.rules.specs.World.{World, world, board_of, places}
use Rattle.rules.specs.Call.{op_at, step, stepped, step_refusal, grown}
use Rattle.rules.specs.Dark.{dark_of, step_dark}
use Rattle.rules.specs.Copied.{step_copied}
use Rattle.rules.specs.Promise.{Gives}
use Rattle.rules.proofs.Choices.{both_zero}
use Rattle.rules.proofs.Counted.{same_passes}
use Rattle.rules.proofs.Ready.{Ready, step_own_law, stepped_follows}
use Rattle.rules.proofs.Undo.{Fits}
use Rattle.rules.proofs.Copied.{table_counts, table_few}
use Rattle.rules.proofs.Given.{Back, given_refused, answered_done, done_number, some_number}
use Rattle.trail.specs.InRange.{InRange}
use Rattle.decode.specs.declared.Way.TheVariants as way
use Rattle.decode.specs.Ways.{way_of}
use Rattle.decode.proofs.Cases.{elsewhere, drawing_apart}
use Rattle.act.specs.Able.{Able}
use Rattle.act.specs.Became.{acted, Became}
use Rattle.keeping.specs.Writable.{blank, Reaches}
use Rattle.keeping.proofs.Laid.{kept, nothing_old}
use Rattle.parts.specs.Whole.{whole}
use Rattle.parts.specs.declared.Core.{Core}
use Rattle.ways.specs.declared.Stepped.{Stepped}
use Rattle.ways.specs.Steps.{Reached, Steps}
use Rattle.ways.proofs.Keep.{reaches}

module _ (w : World) (h : Ready w) where
  abbrev m : Machine
  m = w.machine

  -- ---- what is left of the judgement

  -- an instruction's numbers, and after them the late 10
  abbrev pub verdict : Op → ℕ
  verdict op = or_later (refusal_of op m) (lit_refusal m.lit w.picture (picture_after op m w.memory w.picture))

  near_left : m.pc ≤ m.end - 2 → step_refusal w ≡ verdict (op_at (board_of w))
  near_left near = step_own_law w h ∙ rw (le-leb m.pc (m.end - 2) near)

  -- a refused step darkens nothing, and copies nothing
  refused_dark : (r : Refusal) → number_of r ≡ step_refusal w → step_dark w ≡ 0
  unfolding step_dark
  refused_dark r e = rw (ne_eqb (step_refusal w) 0 (λ z. some_number r (e ∙ z)))

  refused_copied : (r : Refusal) → number_of r ≡ step_refusal w → step_copied w ≡ 0
  unfolding step_copied
  refused_copied r e = rw (ne_eqb (step_refusal w) 0 (λ z. some_number r (e ∙ z)))

  module _ (past : m.end - 2 < m.pc) where
    far_says : number_of PcPastEnd ≡ step_refusal w
    far_says = sym (step_own_law w h ∙ rw (lt-leb m.pc (m.end - 2) past))

    pub far : (keys random : ℕ) → Back {A = Stepped} (step keys random w) (Err PcPastEnd) w
    unfolding step
    far keys random = given_refused (step_refusal w) (stepped keys random w) w PcPastEnd far_says

    pub far_dark : step_dark w ≡ 0
    far_dark = refused_dark PcPastEnd far_says

    pub far_copied : step_copied w ≡ 0
    far_copied = refused_copied PcPastEnd far_says

  module _ (op : Op) (r : Refusal) (e : op ≡ op_at (board_of w)) (near : m.pc ≤ m.end - 2) (n : number_of r ≡ verdict op) where
    judged_says : number_of r ≡ step_refusal w
    judged_says = n ∙ ap verdict e ∙ sym (near_left near)

    pub judged_refused : (keys random : ℕ) → Back {A = Stepped} (step keys random w) (Err r) w
    unfolding step
    judged_refused keys random = given_refused (step_refusal w) (stepped keys random w) w r judged_says

    pub judged_dark : step_dark w ≡ 0
    judged_dark = refused_dark r judged_says

    pub judged_copied : step_copied w ≡ 0
    judged_copied = refused_copied r judged_says

  -- ---- what its parts ask

  pub place_inside : 292 * w.trail.next + 292 ≤ length w.history
  place_inside = omega (arith, h.next)

  pub in_range : InRange w.trail (places w.history)
  in_range = record { next = h.next; kept = omega (arith, h.limit); few = omega (arith, h.most) }

  module _ (op : Op) (e : op ≡ op_at (board_of w)) (near : m.pc ≤ m.end - 2) (allowed : verdict op ≡ 0) where
    passes : step_refusal w ≡ 0
    passes = near_left near ∙ rw e at allowed

    kept_fits : Fits m.end (change_of op m)
    kept_fits = rw e (stepped_follows w h 0 0 passes).undoable.fits

    pub step_reaches : (rows : List ℕ) → length rows ≡ 32 → Reaches (change_of op m) w.memory rows
    step_reaches rows sized = reaches w.memory rows h.good.memory.size sized op m h.good.machine.end.most kept_fits

    -- the record, kept in its two parts
    pub step_kept : (rows h₁ h₂ : List ℕ) (a : Action) → length rows ≡ 32
        → h₁ ≡ over w.history (292 * w.trail.next) (blank m (change_of op m) a) 292
        → h₂ ≡ over h₁ (292 * w.trail.next + 32) (old (change_of op m) w.memory (bytes_of rows)) (count (change_of op m))
        → h₂ ≡ over w.history (292 * w.trail.next) (record_with m (change_of op m) (old (change_of op m) w.memory (bytes_of rows)) a) 292
    step_kept rows h₁ h₂ a sized =
        kept w.history h₁ h₂ w.memory rows w.trail.next m (change_of op m) a h.good.machine.v.size place_inside (step_reaches rows sized)

    pub able : way_of op ≡ way.Quiet → Able op m w.memory
    able q =
        record {
          quiet = q;
          end = h.good.machine.end.most;
          near = omega (arith, near, h.good.machine.end.most);
          shallow = h.good.machine.calls.most;
          allowed = (both_zero (refusal_of op m) _ allowed).0;
          memory = h.good.memory.size;
        }

    pub step_dark_law : step_dark w ≡ dark_of op m w.memory w.picture
    unfolding step_dark
    step_dark_law = rw (eq-eqb (step_refusal w) 0 passes, e)

    pub step_copied_law : step_copied w ≡ count (change_of op m)
    unfolding step_copied
    step_copied_law = rw (eq-eqb (step_refusal w) 0 passes, ← e) (table_counts op m)

    pub copied_few : count (change_of op m) ≤ 256
    copied_few = rw (← table_counts op m) (table_few op m)

    -- ---- what they make together

    pub step_gives : (keys random : ℕ) (m' : Machine) (t' : Trail) (mem pic his : List ℕ)
        → Became (acted op keys random m w.memory w.picture) m' mem pic
        → t' ≡ grown (places w.history) w.trail
        → his ≡ over w.history (292 * w.trail.next) (record_of (change_of op m) (Step keys random) (board_of w)) 292
        → (s : Stepped) → Gives (step keys random w) (Ok s) m' t' mem pic his
    unfolding step stepped
    step_gives keys random m' t' mem pic his b t k s =
        let b' = rw e at b in
        rw (answered_done (step_refusal w) (stepped keys random w) w passes)
        (record { says = refl; machine = b'.machine; trail = t; memory = b'.memory; picture = b'.picture; history = rw e at k })

-- ---- the ways through a step

-- what was not refused passed
pub passed : {A : Type 0} {o : Result A Refusal} {x : A} {n : ℕ} → number o ≡ n → o ≡ Ok x → n ≡ 0
passed says done = sym says ∙ done_number done

-- a record that says that nothing changed is whole without old bytes
pub nothing_kept : (m : Machine) (a : Action) (history his : List ℕ) (at : ℕ) → his ≡ over history at (blank m Nothing a) 292
    → his ≡ over history at (record_with m Nothing [] a) 292
nothing_kept m a history his at e = e ∙ ap (λ (l : List ℕ). over history at l 292) (nothing_old m a)

-- a refused step hands everything back
pub back : (keys random : ℕ) (c : Core) (v stack : List ℕ) (t : Trail) (mem pic his : List ℕ) (r : Refusal)
    → let w = world (whole c v stack) t mem pic his in
    Back {A = Stepped} (step keys random w) (Err r) w → step_dark w ≡ 0 → step_copied w ≡ 0
    → Steps keys random w (Err r) v stack mem pic his
back keys random c v stack t mem pic his r gives dark copied =
    record { gives = gives; dark = sym dark; dark_few = omega arith; copied = sym copied; copied_few = omega arith }

-- the instruction that was reached, by another name
pub reached_as : {op same : Op} {w : World} → op ≡ same → Reached op w → Reached same w
reached_as e r = record { ready = r.ready; near = r.near; there = sym e ∙ r.there }

-- and so does one whose instruction is refused
pub reached_back : (keys random : ℕ) (c : Core) (v stack : List ℕ) (t : Trail) (mem pic his : List ℕ) (op : Op) (f : Refusal)
    → let w = world (whole c v stack) t mem pic his in
    (r : Reached op w) → number_of f ≡ verdict w r.ready op
    → Steps keys random w (Err f) v stack mem pic his
reached_back keys random c v stack t mem pic his op f r says =
    let w = world (whole c v stack) t mem pic his in
    back keys random c v stack t mem pic his f
    (judged_refused w r.ready op f r.there r.near says keys random)
    (judged_dark w r.ready op f r.there r.near says)
    (judged_copied w r.ready op f r.there r.near says)

module _ (w : World) (op : Op) (r : Reached op w) where
  pub made : verdict w r.ready op ≡ 0 → (keys random : ℕ) (s : Stepped) (v stack mem pic his : List ℕ)
      → Became (acted op keys random w.machine w.memory w.picture) (whole s.core v stack) mem pic
      → s.trail ≡ grown (places w.history) w.trail
      → his ≡ over w.history (292 * w.trail.next) (record_of (change_of op w.machine) (Step keys random) (board_of w)) 292
      → s.counts.dark ≡ dark_of op w.machine w.memory w.picture → s.counts.dark ≤ 120 → s.counts.copied ≡ count (change_of op w.machine)
      → Steps keys random w (Ok s) v stack mem pic his
  made allowed keys random s v stack mem pic his became trail kept dark few copied =
      let h = r.ready in
      record {
        gives = step_gives w h op r.there r.near allowed keys random _ _ _ _ _ became trail kept s;
        dark = dark ∙ sym (step_dark_law w h op r.there r.near allowed);
        dark_few = few;
        copied = copied ∙ sym (step_copied_law w h op r.there r.near allowed);
        copied_few = rw copied (copied_few w h op r.there r.near allowed);
      }

-- an instruction on the state alone is never refused
pub plain_passes : (w : World) (h : Ready w) (s : Simple) → verdict w h (Plain s) ≡ 0
unfolding refusal_of after
plain_passes w h s = same_passes w.machine.lit w.picture h.good.machine.lit

-- only a drawing darkens spots
pub other_dark : (op : Op) (m : Machine) (mem pic : List ℕ) → way_of op ≡ way.Other → dark_of op m mem pic ≡ 0
unfolding dark_of
other_dark Clear m mem pic o = refl
other_dark (Decimal x) m mem pic o = refl
other_dark (Store x) m mem pic o = refl
other_dark Unlisted m mem pic o = refl
other_dark MachineCode m mem pic o = refl
other_dark (Plain s) m mem pic o = elsewhere refl o
other_dark (AwaitKey x) m mem pic o = elsewhere refl o
other_dark (Call a) m mem pic o = elsewhere refl o
other_dark Return m mem pic o = elsewhere refl o
other_dark (Draw x y n) m mem pic o = drawing_apart (eqb n 0) o
other_dark (Fetch x) m mem pic o = elsewhere refl o
