-- A run, entry by entry: what is still to be done from here gives the same answer.
use mathlib.Core.Path.{◌≡◌, refl, sym, ◌∙◌}
use mathlib.Core.Bool.{true, ◌&&◌, and-eq-true_iff}
use mathlib.Core.List.{List, ◌∷◌}
use Prim.Native.Nat.{ℕ, ◌+◌, ◌*◌, ◌≤◌, ◌<◌}
use native.Mathlib.Nat.{mul-suc}
use native.Mathlib.Numerals.{add-one}
use native.Mathlib.Omega.{arith}
use lib.ListN.{length, drop, get_or, drop_of_length-le}
use lib.Seq.{drop-cons}
use lib.Dec.{eqb, leb}
use borrow.Author.Tests.{leb-true, eqb-true, eq-eqb, ne_eqb}
use Rattle.rules.specs.declared.Machine.{Machine}
use Rattle.rules.specs.declared.Trail.{Trail}
use Rattle.rules.specs.declared.Refusal.{Refusal}
use Rattle.std.specs.Prelude.{Ok, Err, ⊤}
use Rattle.rules.specs.Number.{pick}
use Rattle.rules.specs.Refusal.{done, number_of}
use Rattle.rules.specs.World.{World, Answer, world}
use Rattle.rules.specs.Call.{step}
use Rattle.rules.specs.Run.{Ran, ticked_by, run_from, total_from, total, lists_fit, run, run_refusal}
use Rattle.rules.specs.Dark.{step_dark}
use Rattle.rules.specs.Copied.{step_copied}
use Rattle.rules.specs.Promise.{Gives, GivesRun}
use Rattle.rules.proofs.Given.{tests, handed, gives_as, some_number}
use Rattle.rules.proofs.Ready.{Ready, step_ready, ticks_ready}
use Rattle.entries.proofs.Ticks.{gives_world, world_gives}
use Rattle.running.proofs.Nothing.{nothing_added}

pub record SameLength (first ks rs : List ℕ) : Type 0 where
  pub keys : length ks ≡ length first
  pub randoms : length rs ≡ length first
  pub few : length first ≤ 4096

pub lists_same : (first keys randoms : List ℕ) → lists_fit first keys randoms ≡ true → SameLength first keys randoms
lists_same first keys randoms e =
    let ends = eqb (length first) (length keys) && eqb (length keys) (length randoms) in
    let all = (and-eq-true_iff ends (leb (length first) 4096)).0 e in
    let both = (and-eq-true_iff (eqb (length first) (length keys)) (eqb (length keys) (length randoms))).0 all.0 in
    let k = eqb-true (length first) (length keys) both.0 in
    let r = eqb-true (length keys) (length randoms) both.1 in
    record { keys = sym k; randoms = sym (k ∙ r); few = leb-true _ _ all.1 }

-- what is left of a list is its next element and the rest
pub drop_next : (l : List ℕ) (i : ℕ) → i < length l → drop i l ≡ get_or l i 0 ∷ drop (i + 1) l
drop_next l i h = rw add-one (drop-cons l i 0 h)

-- ---- a number that the entries add up to

-- n after i entries, each of which added at most so much; and what is still to be added gives the same sum
pub record Sums (each : World → ℕ) (most : ℕ) (ticks keys randoms : List ℕ) (w₀ w : World) (i n : ℕ) : Type 0 where
  pub sum : n + total_from each (drop i ticks) (drop i keys) (drop i randoms) w ≡ total_from each ticks keys randoms w₀
  pub few : n ≤ most * i

-- the step of entry i, and the world that its ticks lead to
abbrev ticks_of : List ℕ → World → ℕ → World
ticks_of ticks w i = ticked_by (get_or ticks i 0) w

abbrev entry_of : List ℕ → List ℕ → List ℕ → World → ℕ → Answer
entry_of ticks keys randoms w i = step (get_or keys i 0) (get_or randoms i 0) (ticks_of ticks w i)

module _ (each : World → ℕ) (most : ℕ) (ticks keys randoms : List ℕ) (w₀ w : World) (i n : ℕ) (h : Sums each most ticks keys randoms w₀ w i n) where
  sum_ended : length ticks ≤ i → n ≡ total_from each ticks keys randoms w₀
  unfolding total_from
  sum_ended past = omega (arith, rw (drop_of_length-le ticks {i = i} past) at h.sum)

  module _ (lists : SameLength ticks keys randoms) (more : i < length ticks) where
    abbrev made : Answer
    made = entry_of ticks keys randoms w i

    opened_sum : n + pick (eqb made.refusal 0)
        (each (ticks_of ticks w i) + total_from each (drop (i + 1) ticks) (drop (i + 1) keys) (drop (i + 1) randoms) made.world) 0
        ≡ total_from each ticks keys randoms w₀
    unfolding total_from
    opened_sum =
        rw (drop_next ticks i more, drop_next keys i (omega (arith, lists.keys)), drop_next randoms i (omega (arith, lists.randoms))) at h.sum

    sum_on : (v : World) (d : ℕ) → made.refusal ≡ 0 → v ≡ made.world → d ≡ each (ticks_of ticks w i) → d ≤ most
        → Sums each most ticks keys randoms w₀ v (i + 1) (n + d)
    sum_on v d z at e l =
        let one : most * (i + 1) ≡ most * i + most = rw (add-one i) (mul-suc most i) in
        record { sum = rw (at, e) (omega (arith, rw (eq-eqb made.refusal 0 z) at opened_sum)); few = omega (arith, h.few, one) }

    sum_stopped : (made.refusal ≡ 0 → ⊥) → n ≡ total_from each ticks keys randoms w₀
    sum_stopped ne = omega (arith, rw (ne_eqb made.refusal 0 ne) at opened_sum)

-- ---- after i entries, which darkened so many spots and copied so many bytes

pub record Running (ticks keys randoms : List ℕ) (w₀ w : World) (i dark copied : ℕ) : Type 0 where
  pub lists : SameLength ticks keys randoms
  pub inside : i ≤ length ticks
  pub ready : Ready w
  pub same : run_from i (drop i ticks) (drop i keys) (drop i randoms) w ≡ run_from 0 ticks keys randoms w₀
  pub spots : Sums step_dark 120 ticks keys randoms w₀ w i dark
  pub bytes : Sums step_copied 256 ticks keys randoms w₀ w i copied

pub started : (ticks keys randoms : List ℕ) (w : World) → SameLength ticks keys randoms → Ready w → Running ticks keys randoms w w 0 0 0
started ticks keys randoms w s h =
    record {
      lists = s;
      inside = omega arith;
      ready = h;
      same = refl;
      spots = record { sum = omega arith; few = omega arith };
      bytes = record { sum = omega arith; few = omega arith };
    }

-- the two numbers where a run ends
abbrev pub Totals : List ℕ → List ℕ → List ℕ → World → ℕ → ℕ → Type 0
Totals ticks keys randoms w₀ dark copied = (dark ≡ total_from step_dark ticks keys randoms w₀) × (copied ≡ total_from step_copied ticks keys randoms w₀)

module _ (ticks keys randoms : List ℕ) (w₀ w : World) (i dark copied : ℕ) (h : Running ticks keys randoms w₀ w i dark copied) where
  pub ended : length ticks ≤ i → GivesRun (run_from 0 ticks keys randoms w₀) i done w.machine w.trail w.memory w.picture w.history
  unfolding run_from
  ended past =
      rw (← h.same, drop_of_length-le ticks {i = i} past)
      (record { accepted = refl; rest = world_gives w w refl })

  pub ended_totals : length ticks ≤ i → Totals ticks keys randoms w₀ dark copied
  ended_totals past = (
    sum_ended step_dark 120 ticks keys randoms w₀ w i dark h.spots past,
    sum_ended step_copied 256 ticks keys randoms w₀ w i copied h.bytes past,
  )

  module _ (more : i < length ticks) where
    abbrev entry : Answer
    entry = entry_of ticks keys randoms w i

    abbrev Chosen : Ran
    Chosen = pick (eqb entry.refusal 0) (run_from (i + 1) (drop (i + 1) ticks) (drop (i + 1) keys) (drop (i + 1) randoms) entry.world)
        (record { accepted = i; answer = entry })

    opened : Chosen ≡ run_from 0 ticks keys randoms w₀
    unfolding run_from
    opened =
        rw (drop_next ticks i more, drop_next keys i (omega (arith, h.lists.keys)), drop_next randoms i (omega (arith, h.lists.randoms))) at h.same

    pub went_on : {A : Type 0} (x : A) (m : Machine) (t : Trail) (mem pic his : List ℕ) (d k : ℕ) → Gives entry (Ok x) m t mem pic his
        → d ≡ step_dark (ticks_of ticks w i) → d ≤ 120 → k ≡ step_copied (ticks_of ticks w i) → k ≤ 256
        → Running ticks keys randoms w₀ (world m t mem pic his) (i + 1) (dark + d) (copied + k)
    went_on x m t mem pic his d k g e l f s =
        let at = gives_world entry (Ok x) m t mem pic his g in
        let passed = sym g.says in
        record {
          lists = h.lists;
          inside = omega arith;
          ready = rw at (step_ready (ticked_by (get_or ticks i 0) w) (ticks_ready (get_or ticks i 0) w h.ready) (get_or keys i 0) (get_or randoms i 0));
          same = rw at (rw (eq-eqb entry.refusal 0 passed) at opened);
          spots = sum_on step_dark 120 ticks keys randoms w₀ w i dark h.spots h.lists more _ d passed at e l;
          bytes = sum_on step_copied 256 ticks keys randoms w₀ w i copied h.bytes h.lists more _ k passed at f s;
        }

    -- and one that copies nothing leaves both sums
    pub went_on_alone : {A : Type 0} (x : A) (m : Machine) (t : Trail) (mem pic his : List ℕ) (d k : ℕ) → Gives entry (Ok x) m t mem pic his
        → d ≡ step_dark (ticks_of ticks w i) → d ≤ 120 → k ≡ step_copied (ticks_of ticks w i) → k ≤ 256 → k ≡ 0
        → Running ticks keys randoms w₀ (world m t mem pic his) (i + 1) dark copied
    went_on_alone x m t mem pic his d k g e l f s none =
        let no_dark : dark + d ≡ dark = omega (arith, e ∙ nothing_added _ (sym f ∙ none)) in
        let no_bytes : copied + k ≡ copied = omega (arith, none) in
        rw (no_dark, no_bytes) at (went_on x m t mem pic his d k g e l f s)

    pub stopped : {A : Type 0} (r : Refusal) (m : Machine) (t : Trail) (mem pic his : List ℕ) → Gives {A = A} entry (Err r) m t mem pic his
        → GivesRun {A = ⊤} (run_from 0 ticks keys randoms w₀) i (Err r) m t mem pic his
    stopped r m t mem pic his g =
        let some = ne_eqb entry.refusal 0 (λ z. some_number r (g.says ∙ z)) in
        let last = rw some at opened in
        rw (← last) (record { accepted = refl; rest = gives_as (Err r) refl g })

    pub stopped_totals : {A : Type 0} (r : Refusal) (m : Machine) (t : Trail) (mem pic his : List ℕ) → Gives {A = A} entry (Err r) m t mem pic his
        → Totals ticks keys randoms w₀ dark copied
    stopped_totals r m t mem pic his g =
        let some : entry.refusal ≡ 0 → ⊥ = λ z. some_number r (g.says ∙ z) in (
          sum_stopped step_dark 120 ticks keys randoms w₀ w i dark h.spots h.lists more some,
          sum_stopped step_copied 256 ticks keys randoms w₀ w i copied h.bytes h.lists more some,
        )

-- ---- the call

pub run_refused : (ticks keys randoms : List ℕ) (w : World) (r : Refusal) → number_of r ≡ tests w (lists_fit ticks keys randoms)
    → GivesRun {A = ⊤} (run ticks keys randoms w) 0 (Err r) w.machine w.trail w.memory w.picture w.history
unfolding run run_refusal
run_refused ticks keys randoms w r e =
    let refusal = run_refusal ticks keys randoms w in
    rw (ne_eqb refusal 0 (λ z. some_number r (e ∙ z)))
    (record { accepted = refl; rest = handed refusal w (Err r) e })

-- a number that it answers
module _ (each : World → ℕ) (ticks keys randoms : List ℕ) (w : World) where
  pub run_refused_totals : (r : Refusal) → number_of r ≡ tests w (lists_fit ticks keys randoms) → total each ticks keys randoms w ≡ 0
  unfolding total run_refusal
  run_refused_totals r e = rw (ne_eqb (run_refusal ticks keys randoms w) 0 (λ z. some_number r (e ∙ z)))

  pub run_admitted_totals : tests w (lists_fit ticks keys randoms) ≡ 0 → total each ticks keys randoms w ≡ total_from each ticks keys randoms w
  unfolding total run_refusal
  run_admitted_totals e = rw (eq-eqb (run_refusal ticks keys randoms w) 0 e)

pub run_admitted : (ticks keys randoms : List ℕ) (w : World) → tests w (lists_fit ticks keys randoms) ≡ 0
    → run ticks keys randoms w ≡ run_from 0 ticks keys randoms w
unfolding run run_refusal
run_admitted ticks keys randoms w e = rw (eq-eqb (run_refusal ticks keys randoms w) 0 e)
