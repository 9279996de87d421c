-- A run, entry by entry: what is still to be done from here gives the same answer, and what a run hands back stays playable.
use mathlib.Core.Path.{◌≡◌, refl, sym, ap, ◌∙◌}
use mathlib.Core.Bool.{Bool, true, ◌&&◌, and-eq-true_iff}
use mathlib.Core.List.{List, [], ◌∷◌}
use Prim.Native.Nat.{ℕ, zero, suc, ◌+◌, ◌-◌, ◌≤◌, ◌<◌}
use native.Mathlib.Numerals.{add-one}
use native.Mathlib.Omega.{arith}
use Rattle.std.specs.Prelude.{⊤, Result, Ok, Err, OnOk}
use lib.ListN.{length, drop, get_or, drop_of_length-le}
use lib.Seq.{drop-cons}
use lib.Dec.{eqb, leb}
use borrow.Author.Tests.{leb-true, eqb-true, eq-eqb, ne_eqb}
use Rattle.rules.specs.declared.Action.TheVariants.{Step, Tick}
use Rattle.rules.specs.declared.Machine.{Machine}
use Rattle.rules.specs.declared.Refusal.{Refusal}
use Rattle.rules.specs.Number.{pick, unless}
use Rattle.rules.specs.Refusal.{done, number, number_of}
use Rattle.rules.specs.State.{Chosen, chosen, end_sound, sound}
use Rattle.rules.specs.Step.{Board}
use Rattle.rules.specs.Call.{step_own, step_board, tick_board}
use Rattle.rules.specs.Run.{lists_fit}
use Rattle.rules.specs.Typed.{Below, TypedMachine}
use Rattle.rules.proofs.Good.{GoodMachine, GoodBoard}
use Rattle.rules.proofs.Choices.{by_test, passed}
use Rattle.rules.proofs.Follow.{action_follows}
use Rattle.rules.proofs.Given.{some_number, done_number}
use Rattle.rules.proofs.Sound.{sound_good, sound_parts}
use Rattle.rules.proofs.Still.{action_chosen}
use Rattle.spots.specs.Spots.{spots_of, all_spots, AreSpots}
use Rattle.spots.proofs.Forms.{spots_back, picture_bytes}
use Rattle.spots.proofs.Walked.{all_below}
use Rattle.plain_step.specs.Does.{board_on, Playable, Leaves, stepped_to}
use Rattle.plain.specs.Gone.{Gone, ticked_on, gone_from}
use Rattle.plain.specs.Plain.{in_spots, plain_refusal, plain_run, GivesPlain}

-- ---- what passes the tests 9 and 10

pub playable : (m : Machine) (mem spots : List ℕ) (lists : Bool) → TypedMachine m → Below 256 mem
    → unless (eqb (length mem) 4096 && eqb (length spots) 2048 && lists) 9 (unless (sound m && all_spots spots) 10 0) ≡ 0
    → Playable m mem spots
playable m mem spots lists typed bytes e =
    let (fits, later) = passed (eqb (length mem) 4096 && eqb (length spots) 2048 && lists) 8 _ e in
    let healthy = (passed (sound m && all_spots spots) 9 0 later).0 in
    let sizes = (and-eq-true_iff (eqb (length mem) 4096) (eqb (length spots) 2048)).0
    ((and-eq-true_iff (eqb (length mem) 4096 && eqb (length spots) 2048) lists).0 fits).0 in
    let both = (and-eq-true_iff (sound m) (all_spots spots)).0 healthy in
    let are : AreSpots spots = record { size = eqb-true _ _ sizes.1; each = all_below spots both.1 } in
    record {
      good = record {
        machine = sound_good m typed both.0;
        memory = record { size = eqb-true _ _ sizes.0; below = bytes };
        picture = picture_bytes spots are;
      };
      are = are;
    }

pub passed_playable : {A : Type 0} (m : Machine) (mem spots : List ℕ) (lists : Bool) (o : Result A Refusal) → TypedMachine m → Below 256 mem
    → number o ≡ unless (eqb (length mem) 4096 && eqb (length spots) 2048 && lists) 9 (unless (sound m && all_spots spots) 10 0)
    → OnOk o (Playable m mem spots)
passed_playable m mem spots lists (Ok x) typed bytes e = playable m mem spots lists typed bytes (sym e)
passed_playable m mem spots lists (Err r) typed bytes e = _

-- ---- ticks and a step keep it

ticked_good : (n : ℕ) (b : Board) → GoodBoard b → GoodBoard (ticked_on n b)
ticked_good zero b g = g
ticked_good (suc n) b g = ticked_good n (tick_board b) (action_follows b g Tick refl).good

stepped_good : (keys random : ℕ) (b : Board) → GoodBoard b → GoodBoard (stepped_to keys random b)
unfolding stepped_to
stepped_good keys random b g = by_test GoodBoard (step_own b) 0 (λ e. (action_follows b g (Step keys random) e).good) (λ ne. g)

-- the board that is handed back
handed : {A : Type 0} {n : ℕ} {b : Board} {o : Result A Refusal} {m : Machine} {mem spots : List ℕ} → Leaves n b o m mem spots → board_on m mem spots ≡ b
handed l = let machine = l.machine in let memory = l.memory in let picture = l.picture in
    λ i. record { machine = machine i; memory = memory i; picture = picture i }

-- what is left with one answer is left with each of the same number
pub leaves_as : {A B : Type 0} {n : ℕ} {b : Board} {o : Result A Refusal} (q : Result B Refusal) {m : Machine} {mem spots : List ℕ} → number q ≡ number o
    → Leaves n b o m mem spots → Leaves n b q m mem spots
leaves_as q e l = record { says = e ∙ l.says; machine = l.machine; memory = l.memory; picture = l.picture; are = l.are }

pub one_less : (n : ℕ) (b : Board) → 0 < n → ticked_on n b ≡ ticked_on (n - 1) (tick_board b)
one_less zero b h = absurd (omega arith)
one_less (suc n) b h = let e : suc n - 1 ≡ n = omega arith in rw e

pub ticked_playable : (n : ℕ) (m m' : Machine) (mem spots : List ℕ) → Playable m mem spots → board_on m' mem spots ≡ ticked_on n (board_on m mem spots)
    → Playable m' mem spots
ticked_playable n m m' mem spots p e = record { good = rw e (ticked_good n (board_on m mem spots) p.good); are = p.are }

-- ---- the lists

pub record SameLength (ticks ks rs : List ℕ) : Type 0 where
  pub keys : length ks ≡ length ticks
  pub randoms : length rs ≡ length ticks
  pub few : length ticks ≤ 4096

pub lists_same : (ticks keys randoms : List ℕ) → lists_fit ticks keys randoms ≡ true → SameLength ticks keys randoms
lists_same ticks keys randoms e =
    let ends = eqb (length ticks) (length keys) && eqb (length keys) (length randoms) in
    let all = (and-eq-true_iff ends (leb (length ticks) 4096)).0 e in
    let both = (and-eq-true_iff (eqb (length ticks) (length keys)) (eqb (length keys) (length randoms))).0 all.0 in
    let k = eqb-true (length ticks) (length keys) both.0 in
    let r = eqb-true (length keys) (length randoms) both.1 in
    record { keys = sym k; randoms = sym (k ∙ r); few = leb-true _ _ all.1 }

-- what is left of a list is its next element and the rest
drop_next : (l : List ℕ) (i : ℕ) → i < length l → drop i l ≡ get_or l i 0 ∷ drop (i + 1) l
drop_next l i h = rw add-one (drop-cons l i 0 h)

-- ---- after i entries

pub record Running (ticks keys randoms : List ℕ) (b₀ : Board) (m : Machine) (mem spots : List ℕ) (i : ℕ) : Type 0 where
  pub lists : SameLength ticks keys randoms
  pub inside : i ≤ length ticks
  pub play : Playable m mem spots
  pub same : gone_from i (drop i ticks) (drop i keys) (drop i randoms) (board_on m mem spots) ≡ gone_from 0 ticks keys randoms b₀

pub started : (ticks keys randoms : List ℕ) (m : Machine) (mem spots : List ℕ) → SameLength ticks keys randoms → Playable m mem spots
    → Running ticks keys randoms (board_on m mem spots) m mem spots 0
started ticks keys randoms m mem spots s p = record { lists = s; inside = omega arith; play = p; same = refl }

module _ (ticks keys randoms : List ℕ) (b₀ : Board) (m : Machine) (mem spots : List ℕ) (i : ℕ) (h : Running ticks keys randoms b₀ m mem spots i) where
  pub ended : length ticks ≤ i → GivesPlain (in_spots (gone_from 0 ticks keys randoms b₀)) i done m mem spots
  unfolding gone_from
  ended past =
      rw (← h.same, drop_of_length-le ticks {i = i} past)
      (record { accepted = refl; says = refl; machine = refl; memory = refl; picture = sym (spots_back spots h.play.are) })

  module _ (more : i < length ticks) where
    abbrev c : Board
    c = ticked_on (get_or ticks i 0) (board_on m mem spots)

    abbrev k : ℕ
    k = get_or keys i 0

    abbrev r : ℕ
    r = get_or randoms i 0

    opened : pick (eqb (step_own c) 0) (gone_from (i + 1) (drop (i + 1) ticks) (drop (i + 1) keys) (drop (i + 1) randoms) (step_board k r c))
        (record { accepted = i; refusal = step_own c; board = c }) ≡ gone_from 0 ticks keys randoms b₀
    unfolding gone_from
    opened =
        rw (drop_next ticks i more, drop_next keys i (omega (arith, h.lists.keys)), drop_next randoms i (omega (arith, h.lists.randoms))) at h.same

    module _ {A : Type 0} {o : Result A Refusal} {m' : Machine} {mem' spots' : List ℕ} (l : Leaves (step_own c) (stepped_to k r c) o m' mem' spots') where
      accepted_board : step_own c ≡ 0 → board_on m' mem' spots' ≡ step_board k r c
      unfolding stepped_to
      accepted_board z = handed l ∙ rw (eq-eqb (step_own c) 0 z)

      refused_board : (step_own c ≡ 0 → ⊥) → board_on m' mem' spots' ≡ c
      unfolding stepped_to
      refused_board ne = handed l ∙ rw (ne_eqb (step_own c) 0 ne)

    pub went_on : {A : Type 0} (o : Result A Refusal) (x : A) (m' : Machine) (mem' spots' : List ℕ) → Leaves (step_own c) (stepped_to k r c) o m' mem' spots' → o ≡ Ok x
        → Running ticks keys randoms b₀ m' mem' spots' (i + 1)
    went_on o x m' mem' spots' l accepted =
        let z = sym l.says ∙ done_number accepted in
        record {
          lists = h.lists;
          inside = omega arith;
          play = record {
            good = rw (handed l) (stepped_good k r c (ticked_good (get_or ticks i 0) (board_on m mem spots) h.play.good));
            are = l.are;
          };
          same = rw (accepted_board l z) (rw (eq-eqb (step_own c) 0 z) at opened);
        }

    pub stopped : (o : Result ⊤ Refusal) (refusal : Refusal) (m' : Machine) (mem' spots' : List ℕ)
        → Leaves (step_own c) (stepped_to k r c) o m' mem' spots'
        → o ≡ Err refusal → GivesPlain (in_spots (gone_from 0 ticks keys randoms b₀)) i (Err refusal) m' mem' spots'
    stopped o refusal m' mem' spots' l refused =
        let says = sym (ap number refused) ∙ l.says in
        let some : step_own c ≡ 0 → ⊥ = λ z. some_number refusal (says ∙ z) in
        let last = rw (ne_eqb (step_own c) 0 some) at opened in
        let b = refused_board l some in
        rw (← last)
        (record {
          accepted = refl;
          says = says;
          machine = ap (λ (d : Board). d.machine) b;
          memory = ap (λ (d : Board). d.memory) b;
          picture = sym (spots_back spots' l.are) ∙ ap (λ (d : Board). spots_of d.picture) b;
        })

-- ---- the call

module _ (ticks keys randoms : List ℕ) (m : Machine) (mem spots : List ℕ) where
  abbrev tests : ℕ
  tests =
      unless (eqb (length mem) 4096 && eqb (length spots) 2048 && lists_fit ticks keys randoms) 9
      (unless (sound m && all_spots spots) 10
      0)

  pub run_refused : (r : Refusal) → number_of r ≡ tests → GivesPlain (plain_run ticks keys randoms m mem spots) 0 (Err r) m mem spots
  unfolding plain_run plain_refusal
  run_refused r e =
      rw (ne_eqb tests 0 (λ z. some_number r (e ∙ z))) (record { accepted = refl; says = e; machine = refl; memory = refl; picture = refl })

  pub run_admitted : tests ≡ 0 → plain_run ticks keys randoms m mem spots ≡ in_spots (gone_from 0 ticks keys randoms (board_on m mem spots))
  unfolding plain_run plain_refusal
  run_admitted e = rw (eq-eqb tests 0 e)

  pub lists_passed : tests ≡ 0 → lists_fit ticks keys randoms ≡ true
  lists_passed e =
      ((and-eq-true_iff (eqb (length mem) 4096 && eqb (length spots) 2048) (lists_fit ticks keys randoms)).0
      (passed (eqb (length mem) 4096 && eqb (length spots) 2048 && lists_fit ticks keys randoms) 8 _ e).0).1

-- ---- an admitted run hands back a state in range and sound

gone_good : (n : ℕ) (ts ks rs : List ℕ) (b : Board) → GoodBoard b → GoodBoard (gone_from n ts ks rs b).board
unfolding gone_from
gone_good n [] ks rs b g = g
gone_good n (t ∷ ts) [] rs b g = g
gone_good n (t ∷ ts) (k ∷ ks) [] b g = g
gone_good n (t ∷ ts) (k ∷ ks) (r ∷ rs) b g =
    let c = ticked_on t b in
    let gc = ticked_good t b g in
    by_test (λ (q : Gone). GoodBoard q.board) (step_own c) 0
    (λ e. gone_good (n + 1) ts ks rs (step_board k r c) (action_follows c gc (Step k r) e).good) (λ ne. gc)

pub run_good : (ticks keys randoms : List ℕ) (m : Machine) (mem spots : List ℕ) → TypedMachine m → Below 256 mem
    → plain_refusal ticks keys randoms m mem spots ≡ 0 → GoodMachine (plain_run ticks keys randoms m mem spots).machine
unfolding plain_refusal
run_good ticks keys randoms m mem spots typed bytes e =
    let p = playable m mem spots (lists_fit ticks keys randoms) typed bytes e in
    rw (run_admitted ticks keys randoms m mem spots e) (gone_good 0 ticks keys randoms (board_on m mem spots) p.good).machine

-- ---- with the edition and the end that it was handed

ticked_chosen : (n : ℕ) (b : Board) → chosen (ticked_on n b).machine ≡ chosen b.machine
ticked_chosen zero b = refl
ticked_chosen (suc n) b = ticked_chosen n (tick_board b) ∙ action_chosen Tick b

gone_chosen : (n : ℕ) (ts ks rs : List ℕ) (b : Board) → chosen (gone_from n ts ks rs b).board.machine ≡ chosen b.machine
unfolding gone_from
gone_chosen n [] ks rs b = refl
gone_chosen n (t ∷ ts) [] rs b = refl
gone_chosen n (t ∷ ts) (k ∷ ks) [] b = refl
gone_chosen n (t ∷ ts) (k ∷ ks) (r ∷ rs) b =
    let c = ticked_on t b in
    by_test (λ (q : Gone). chosen q.board.machine ≡ chosen b.machine) (step_own c) 0
    (λ e. gone_chosen (n + 1) ts ks rs (step_board k r c) ∙ action_chosen (Step k r) c ∙ ticked_chosen t b) (λ ne. ticked_chosen t b)

pub run_end : (ticks keys randoms : List ℕ) (m : Machine) (mem spots : List ℕ) → plain_refusal ticks keys randoms m mem spots ≡ 0
    → end_sound (plain_run ticks keys randoms m mem spots).machine.end ≡ true
unfolding plain_refusal
run_end ticks keys randoms m mem spots e =
    let later = (passed (eqb (length mem) 4096 && eqb (length spots) 2048 && lists_fit ticks keys randoms) 8 _ e).1 in
    let both = (passed (sound m && all_spots spots) 9 0 later).0 in
    let kept = ap (λ (c : Chosen). end_sound c.end) (gone_chosen 0 ticks keys randoms (board_on m mem spots)) in
    rw (run_admitted ticks keys randoms m mem spots e) (kept ∙ (sound_parts m ((and-eq-true_iff (sound m) (all_spots spots)).0 both).0).end)

pub good_typed : {m : Machine} → GoodMachine m → TypedMachine m
good_typed g =
    record {
      vs = g.v.size;
      v = g.v.below;
      i = g.i;
      pc = g.pc;
      entries = g.calls.size;
      stack = g.calls.below;
      delay = g.timers.delay;
      tone = g.timers.tone;
      lit = omega (arith, g.lit);
      end = omega (arith, g.end.most);
    }
