-- The bytes that an edition and a wait stand as, in an image and in a record. The byte of a wait is `held_byte`, in Record.antt.
use Rattle.std.specs.Prelude.{ℕ, Result, Ok, Err, eqb, leb}
use Rattle.rules.specs.declared.Edition.{Edition}
use Rattle.rules.specs.declared.Edition.TheVariants.{First, Second}
use Rattle.rules.specs.declared.Refusal.{Refusal}
use Rattle.rules.specs.declared.Refusal.TheVariants.{Unsound}
use Rattle.rules.specs.declared.Wait.{Wait}
use Rattle.rules.specs.declared.Wait.TheVariants.{Idle, Held}
use Rattle.rules.specs.Number.{pick}

-- 0 for the first edition and 1 for the second
abbrev pub edition_byte : Edition → ℕ
edition_byte First = 0
edition_byte Second = 1

abbrev pub edition_of : ℕ → Edition
edition_of b = pick (eqb b 1) Second First

-- an edition that there is not is an unsound one
abbrev pub edition_named : ℕ → Result Edition Refusal
edition_named b = pick (leb b 1) (Ok (edition_of b)) (Err Unsound)

-- the key that is held, and FF for none
abbrev pub wait_of : ℕ → Wait
wait_of b = pick (eqb b 0xFF) Idle (Held b)
