-- What a call gives where it is refused, and where it is done.
use mathlib.Core.Path.{◌≡◌, refl, sym, ap, ◌∙◌}
use mathlib.Core.Bool.{Bool, true, false, ◌&&◌, and-eq-true_iff}
use mathlib.Core.List.{List}
use Prim.Native.Nat.{ℕ}
use native.Mathlib.Omega.{arith}
use Rattle.std.specs.Prelude.{Result, Ok, Err, OnOk}
use Rattle.rules.specs.declared.Machine.{Machine}
use Rattle.rules.specs.declared.Trail.{Trail}
use Rattle.rules.specs.declared.Refusal.{Refusal}
use Rattle.rules.specs.declared.Refusal.TheVariants.{PcPastEnd, Unlisted, MachineCode, StackFull, StackEmpty, MemoryPastEnd}
use Rattle.rules.specs.declared.Refusal.TheVariants.{NothingKept, ProgramLength, BufferLength, Unsound, Damaged, NothingAhead}
use Rattle.rules.specs.Number.{unless}
use Rattle.rules.specs.Refusal.{number, number_of}
use Rattle.rules.specs.World.{World, Answer, board_of, buffers_fit, soundly, answered}
use Rattle.rules.specs.Typed.{TypedBoard}
use Rattle.rules.specs.Promise.{Gives}
use Rattle.rules.proofs.Choices.{by_test, passed}
use Rattle.rules.proofs.Ready.{Ready, tests_ready}

-- the world w handed back with an outcome, and a new world handed back as done
abbrev pub Back : {A : Type 0} → Answer → Result A Refusal → World → Type 0
Back a o w = Gives a o w.machine w.trail w.memory w.picture w.history

-- handed back as it is
pub handed : {A : Type 0} (n : ℕ) (w : World) (o : Result A Refusal) → number o ≡ n → Back (record { refusal = n; world = w }) o w
handed n w o e = record { says = e; machine = refl; trail = refl; memory = refl; picture = refl; history = refl }

-- what is given with one answer is given with each of the same number
pub gives_as : {A B : Type 0} {a : Answer} {o : Result A Refusal} (p : Result B Refusal) {m : Machine} {t : Trail} {mem pic his : List ℕ}
    → number p ≡ number o → Gives a o m t mem pic his → Gives a p m t mem pic his
gives_as p e g =
    record { says = e ∙ g.says; machine = g.machine; trail = g.trail; memory = g.memory; picture = g.picture; history = g.history }

-- every refusal has a number
pub some_number : (r : Refusal) → number_of r ≡ 0 → ⊥
some_number PcPastEnd e = omega (arith, e)
some_number Unlisted e = omega (arith, e)
some_number MachineCode e = omega (arith, e)
some_number StackFull e = omega (arith, e)
some_number StackEmpty e = omega (arith, e)
some_number MemoryPastEnd e = omega (arith, e)
some_number NothingKept e = omega (arith, e)
some_number ProgramLength e = omega (arith, e)
some_number BufferLength e = omega (arith, e)
some_number Unsound e = omega (arith, e)
some_number Damaged e = omega (arith, e)
some_number NothingAhead e = omega (arith, e)

-- what is answered with a value has the number 0
pub done_number : {A : Type 0} {o : Result A Refusal} {x : A} → o ≡ Ok x → number o ≡ 0
done_number e = ap number e

module _ (n : ℕ) (new w : World) where
  pub given_refused : {A : Type 0} (r : Refusal) → number_of r ≡ n → Back {A = A} (answered n new w) (Err r) w
  given_refused {A = A} r e =
      by_test (λ (a : Answer). Back {A = A} a (Err r) w) n 0 (λ z. absurd (some_number r (e ∙ z)))
      (λ ne. handed n w (Err r) e)

  pub answered_done : n ≡ 0 → answered n new w ≡ record { refusal = 0; world = new }
  answered_done z = by_test (λ (a : Answer). a ≡ record { refusal = 0; world = new }) n 0 (λ e. refl) (λ ne. absurd (ne z))

pub answer_number : (refusal : ℕ) (new w : World) → (answered refusal new w).refusal ≡ refusal
answer_number refusal new w = by_test (λ (a : Answer). a.refusal ≡ refusal) refusal 0 (λ e. sym e) (λ ne. refl)

-- ---- the tests 9 and 10, of a world and whatever lists come with it

pub both_passed : {A : Type 0} (fits sound : Bool) (o : Result A Refusal) (x : A) → number o ≡ unless fits 9 (unless sound 10 0) → o ≡ Ok x → (fits ≡ true) × (sound ≡ true)
both_passed fits sound o x e d =
    let first = passed fits 8 _ (sym e ∙ done_number d) in
    (first.0, (passed sound 9 0 first.1).0)

abbrev pub tests : World → Bool → ℕ
tests w lists = unless (buffers_fit w && lists) 9 (unless (soundly w) 10 0)

-- a world that passes is sound, and ready
pub tested_sound : (w : World) (lists : Bool) → tests w lists ≡ 0 → soundly w ≡ true
tested_sound w lists e = (passed (soundly w) 9 0 (passed (buffers_fit w && lists) 8 _ e).1).0

pub tested_ready : (w : World) (lists : Bool) → TypedBoard (board_of w) → tests w lists ≡ 0 → Ready w
tested_ready w lists typed e =
    tests_ready w typed ((and-eq-true_iff (buffers_fit w) lists).0 (passed (buffers_fit w && lists) 8 _ e).0).0 (tested_sound w lists e)

pub passed_ready : {A : Type 0} (w : World) (lists : Bool) (o : Result A Refusal) → TypedBoard (board_of w) → number o ≡ tests w lists → OnOk o (Ready w)
passed_ready w lists (Ok x) typed e = tested_ready w lists typed (sym e)
passed_ready w lists (Err r) typed e = _

-- and so are the lists
pub passed_lists : {A : Type 0} (w : World) (lists : Bool) (o : Result A Refusal) (x : A) → number o ≡ tests w lists → o ≡ Ok x → lists ≡ true
passed_lists w lists o x e d = ((and-eq-true_iff (buffers_fit w) lists).0 (both_passed (buffers_fit w && lists) (soundly w) o x e d).0).1

-- what refuses in the first two tests is not changed by later ones
pub settled : (fits sound : Bool) (later : ℕ) → (unless (fits && true) 9 (unless sound 10 0) ≡ 0 → ⊥)
    → unless (fits && true) 9 (unless sound 10 0) ≡ unless fits 9 (unless sound 10 later)
settled false sound later ne = refl
settled true false later ne = refl
settled true true later ne = absurd (ne refl)
