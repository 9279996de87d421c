-- A load: what it gives where it is refused, what its parts ask, and what they leave in memory.
use mathlib.Core.Path.{◌≡◌, refl, sym, ap, ap₂, ◌∙◌}
use mathlib.Core.List.{List, ◌++◌, append_assoc}
use Prim.Native.Nat.{ℕ, ◌+◌, ◌-◌, ◌≤◌}
use native.Mathlib.Omega.{arith}
use lib.ListN.{length, take, drop, replicate, length-append, length-replicate, replicate-append-replicate}
use lib.Seq.{take_at, drop-append-add}
use Rattle.rules.specs.declared.Edition.{Edition}
use Rattle.rules.specs.declared.Edition.TheVariants.{First}
use Rattle.rules.specs.declared.Refusal.{Refusal}
use Rattle.std.specs.Prelude.{Err, ⊤}
use Rattle.rules.specs.Refusal.{done, number_of}
use Rattle.rules.specs.State.{fresh}
use Rattle.rules.specs.Memory.{over}
use Rattle.rules.specs.Load.{digits, end_of, fresh_trail, fresh_world, loaded, loaded_memory, load, load_refusal}
use Rattle.rules.specs.Promise.{Gives}
use Rattle.rules.proofs.Parts.{zeroes, drop_zeros}
use Rattle.rules.proofs.Sound.{end_good}
use Rattle.rules.proofs.Ready.{fits_passed}
use Rattle.rules.proofs.Load.{load_passed}
use Rattle.rules.proofs.Given.{given_refused, answered_done}

-- ---- memory: the digits, zeros to the end, and the program laid over them

-- the bytes before the program
abbrev front : List ℕ
front = digits ++ zeroes 432

cleared : digits ++ zeroes 4016 ≡ front ++ zeroes 3584
cleared = ap (λ (l : List ℕ). digits ++ l) (sym (replicate-append-replicate 432 3584 0)) ∙ sym (append_assoc digits (zeroes 432) (zeroes 3584))

before_program : take 512 (front ++ zeroes 3584) ≡ front
before_program = take_at front (zeroes 3584) 512 (simp (length-append, length-replicate))

behind_program : (n : ℕ) → drop (512 + n) (front ++ zeroes 3584) ≡ zeroes (3584 - n)
behind_program n =
    let long : length front ≡ 512 = simp (length-append, length-replicate) in
    rw long at (drop-append-add front (zeroes 3584) n) ∙ drop_zeros n 3584

pub laid_out : (program memory₀ memory₁ memory₂ memory₃ : List ℕ) → length memory₁ ≡ 4096
    → memory₁ ≡ over memory₀ 0 digits 80
    → memory₂ ≡ take 80 memory₁ ++ replicate (length memory₁ - 80) 0
    → memory₃ ≡ over memory₂ 512 program (length program)
    → memory₃ ≡ loaded_memory program
unfolding loaded_memory
laid_out program memory₀ memory₁ memory₂ memory₃ size laid clear last =
    let digit : take 80 memory₁ ≡ digits = rw laid (take_at digits (drop (0 + 80) memory₀) 80 refl) in
    let second : memory₂ ≡ front ++ zeroes 3584 = clear ∙ rw (digit, size) cleared in
    last ∙ ap (λ (l : List ℕ). over l 512 program (length program)) second
    ∙ ap₂ (λ (a b : List ℕ). a ++ program ++ b) before_program (behind_program (length program))

-- ---- the call

-- an accepted load has room
pub record Room (program mem pic : List ℕ) : Type 0 where
  pub memory : length mem ≡ 4096
  pub picture : length pic ≡ 256
  pub short : length program ≤ 3584

pub load_room : (end : ℕ) (program memory picture history : List ℕ) → load_refusal end program memory picture history ≡ 0 → Room program memory picture
load_room end program memory picture history e =
    let (fits, in_use, short) = load_passed end program memory picture history e in
    let sizes = fits_passed (fresh_world First end memory picture history) fits in
    record { memory = sizes.memory; picture = sizes.picture; short = omega (arith, short, (end_good end in_use).most) }

module _ (edition : Edition) (end : ℕ) (program memory picture history : List ℕ) where
  pub load_refused : (r : Refusal) → number_of r ≡ load_refusal end program memory picture history
      → Gives {A = ⊤} (load edition end program memory picture history) (Err r) (fresh edition (end_of end)) fresh_trail memory picture history
  unfolding load
  load_refused r e =
      given_refused (load_refusal end program memory picture history) (loaded edition end program history) (fresh_world edition end memory picture history) r e

  -- every spot is dark, and the history is cleared from its first byte on
  pub load_gives : load_refusal end program memory picture history ≡ 0 → (mem pic his : List ℕ) → mem ≡ loaded_memory program
      → pic ≡ replicate 256 0 → his ≡ replicate (length history) 0
      → Gives (load edition end program memory picture history) done (fresh edition (end_of end)) fresh_trail mem pic his
  unfolding load
  load_gives e mem pic his em ep eh =
      rw (answered_done (load_refusal end program memory picture history) (loaded edition end program history) (fresh_world edition end memory picture history) e)
      (record {
        says = refl;
        machine = refl;
        trail = refl;
        memory = em;
        picture = ep;
        history = eh;
      })
