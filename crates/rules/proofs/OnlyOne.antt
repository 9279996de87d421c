-- The promises are tight: two outcomes that one answer allows are equal, in every part. `number` tells each two outcomes apart, and rows with
-- the same bytes are the same rows.
use mathlib.Core.Path.{◌≡◌, refl, sym, ap, ◌∙◌}
use mathlib.Core.List.{List, [], ◌∷◌}
use Prim.Native.Nat.{ℕ, zero, suc, ◌^◌}
use lib.ListN.{get_or}
use Rattle.std.specs.Prelude.{Result, Ok, Err, ⊤}
use Rattle.rules.specs.declared.Machine.{Machine}
use Rattle.rules.specs.declared.Trail.{Trail}
use Rattle.rules.specs.declared.Refusal.{Refusal}
use Rattle.rules.specs.declared.Refusal.TheVariants.{PcPastEnd, Unlisted, MachineCode, StackFull, StackEmpty, MemoryPastEnd}
use Rattle.rules.specs.declared.Refusal.TheVariants.{NothingKept, ProgramLength, BufferLength, Unsound, Damaged, NothingAhead}
use Rattle.rules.specs.Refusal.{Outcome, done, number_of, number}
use Rattle.rules.specs.World.{World, Answer}
use Rattle.rules.specs.Call.{step}
use Rattle.rules.specs.Run.{Ran, run}
use Rattle.rules.specs.Dark.{step_dark, went_dark, run_dark}
use Rattle.rules.specs.Copied.{run_copied}
use Rattle.rules.specs.Typed.{Below}
use Rattle.rules.specs.Rows.{bytes_of}
use Rattle.rules.specs.Promise.{Gives, GivesRun}
use Rattle.rules.proofs.Turning.{one_form}
use Rattle.rules.proofs.Given.{some_number}

refusals : List Refusal
refusals =
    PcPastEnd ∷ Unlisted ∷ MachineCode ∷ StackFull ∷ StackEmpty ∷ MemoryPastEnd ∷ NothingKept ∷ ProgramLength ∷ BufferLength ∷ Unsound ∷ Damaged
    ∷ NothingAhead ∷ []

-- the outcome that a number names
named : ℕ → Outcome
named zero = done
named (suc n) = Err (get_or refusals n PcPastEnd)

refused_named : (r : Refusal) → named (number_of r) ≡ Err r
unfolding named refusals
refused_named PcPastEnd = refl
refused_named Unlisted = refl
refused_named MachineCode = refl
refused_named StackFull = refl
refused_named StackEmpty = refl
refused_named MemoryPastEnd = refl
refused_named NothingKept = refl
refused_named ProgramLength = refl
refused_named BufferLength = refl
refused_named Unsound = refl
refused_named Damaged = refl
refused_named NothingAhead = refl

number_named : (o : Outcome) → named (number o) ≡ o
unfolding named
number_named (Ok _) = refl
number_named (Err r) = refused_named r

pub one_outcome : (o p : Outcome) → number o ≡ number p → o ≡ p
one_outcome o p e = sym (number_named o) ∙ ap named e ∙ number_named p

-- a step's outcome has the number of spots that went dark, and is known by its refusal number and by that
with_number : ℕ → Outcome → Result ℕ Refusal
with_number n (Ok _) = Ok n
with_number n (Err r) = Err r

pub one_step_outcome : (o p : Result ℕ Refusal) → number o ≡ number p → went_dark o ≡ went_dark p → o ≡ p
unfolding with_number
one_step_outcome (Ok n) (Ok k) e same = ap Ok same
one_step_outcome (Ok n) (Err x) e same = absurd (some_number x (sym e))
one_step_outcome (Err x) (Ok n) e same = absurd (some_number x e)
one_step_outcome (Err x) (Err y) e same = ap (with_number 0) (one_outcome (Err x) (Err y) e)

-- all that a call hands back: what it answers or why it was refused, and the picture as rows, each of 64 bits by its type
pub record Handed (A : Type 0) : Type 0 where
  pub outcome : Result A Refusal
  pub machine : Machine
  pub trail : Trail
  pub memory : List ℕ
  pub rows : List ℕ
  pub history : List ℕ

abbrev pub Typed : {A : Type 0} → Handed A → Type 0
Typed r = Below (2 ^ 64) r.rows

abbrev pub Allowed : {A : Type 0} → Answer → Handed A → Type 0
Allowed a r = Gives a r.outcome r.machine r.trail r.memory (bytes_of r.rows) r.history

abbrev pub AllowedRun : Ran → ℕ → Handed ⊤ → Type 0
AllowedRun a n r = GivesRun a n r.outcome r.machine r.trail r.memory (bytes_of r.rows) r.history

-- whatever a call answers, two results of one outcome that an answer allows are equal
allowed_same : {A : Type 0} (r s : Handed A) (b : Typed r) (d : Typed s) (a : Answer) → r.outcome ≡ s.outcome → Allowed a r → Allowed a s → r ≡ s
allowed_same r s b d a o g h =
    let m = g.machine ∙ sym h.machine in
    let t = g.trail ∙ sym h.trail in
    let mem = g.memory ∙ sym h.memory in
    let rows = one_form r.rows s.rows b d (g.picture ∙ sym h.picture) in
    let his = g.history ∙ sym h.history in
    λ i. record { outcome = o i; machine = m i; trail = t i; memory = mem i; rows = rows i; history = his i }

module _ (r s : Handed ⊤) (b : Typed r) (d : Typed s) where
  pub only_one : (a : Answer) → Allowed a r → Allowed a s → r ≡ s
  only_one a g h = allowed_same r s b d a (one_outcome r.outcome s.outcome (g.says ∙ sym h.says)) g h

  -- and the same beside a number that has an equation of its own
  pub only_one_beside : (a : Answer) (n p q : ℕ) → Allowed a r → p ≡ n → Allowed a s → q ≡ n → (p ≡ q) × (r ≡ s)
  only_one_beside a n p q g is h also = (is ∙ sym also, only_one a g h)

  -- and the same of a run, with its number of accepted steps
  pub only_one_run : (a : Ran) (n k : ℕ) → AllowedRun a n r → AllowedRun a k s → (n ≡ k) × (r ≡ s)
  only_one_run a n k g h = (g.accepted ∙ sym h.accepted, only_one a.answer g.rest h.rest)

  -- a run also answers how many spots went dark (Q-3), and how many bytes its records keep (Q-13)
  pub only_one_ran : (ticks keys randoms : List ℕ) (w : World) (p q c f n k : ℕ) → let a = run ticks keys randoms w in
      AllowedRun a n r → p ≡ run_dark ticks keys randoms w → c ≡ run_copied ticks keys randoms w
      → AllowedRun a k s → q ≡ run_dark ticks keys randoms w → f ≡ run_copied ticks keys randoms w
      → (p ≡ q) × (c ≡ f) × (n ≡ k) × (r ≡ s)
  only_one_ran ticks keys randoms w p q c f n k g dark copied h dark' copied' =
      let (same, all) = only_one_run (run ticks keys randoms w) n k g h in (dark ∙ sym dark', copied ∙ sym copied', same, all)

-- a step answers in its outcome how many spots went dark (Q-3): what it answers is fixed too
module _ (r s : Handed ℕ) (b : Typed r) (d : Typed s) where
  pub only_one_step : (keys random : ℕ) (w : World)
      → Allowed (step keys random w) r → went_dark r.outcome ≡ step_dark w
      → Allowed (step keys random w) s → went_dark s.outcome ≡ step_dark w → r ≡ s
  only_one_step keys random w g dark h dark' =
      let same = one_step_outcome r.outcome s.outcome (g.says ∙ sym h.says) (dark ∙ sym dark') in
      allowed_same r s b d (step keys random w) same g h
