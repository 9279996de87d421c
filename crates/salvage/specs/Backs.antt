-- What is claimed of the steps back after a salvage: as many as it kept can be made, one after the other, and no more.
use Rattle.std.specs.Prelude.{◌≡◌, true, List, ℕ, zero, suc}
use Rattle.rules.specs.declared.Machine.{Machine}
use Rattle.rules.specs.declared.Trail.{Trail}
use Rattle.rules.specs.declared.Refusal.TheVariants.{NothingKept}
use Rattle.rules.specs.Refusal.{number_of}
use Rattle.rules.specs.World.{World, world, board_of, buffers_fit}
use Rattle.rules.specs.Call.{back_late, back}
use Rattle.rules.specs.Typed.{Below, TypedBoard}
use Rattle.rules.specs.Lit.{TrueLit}
use Rattle.salvage.specs.Salvage.{salvage}

-- n steps back are refused by nothing but the test of the number of lit spots, and while that accepts them, one more is refused by 7
abbrev pub Backs : ℕ → World → Type 0
Backs zero w = (back w).refusal ≡ number_of NothingKept
Backs (suc n) w = ((back w).refusal ≡ back_late w) × (back_late w ≡ 0 → Backs n (back w).world)

-- n steps back are accepted, and one more is refused by 7
abbrev pub BacksAll : ℕ → World → Type 0
BacksAll zero w = (back w).refusal ≡ number_of NothingKept
BacksAll (suc n) w = ((back w).refusal ≡ 0) × BacksAll n (back w).world

-- ---- THE CLAIM, proved in proofs/Backs.antt: as many steps back as were kept are refused neither by 7 nor by 11, and one more is refused by 7,
-- whatever bytes the history held and with any memory and picture beside it; with a true number of lit spots they are all accepted

abbrev pub BacksKept : Type 0
BacksKept =
    (m : Machine) (t : Trail) (history list memory picture : List ℕ) → Below 256 history
    → let s = salvage m t history list in
    let w = world m s.trail memory picture s.history in
    s.refusal ≡ 0 → TypedBoard (board_of w) → buffers_fit w ≡ true → Backs s.kept w × (TrueLit w → BacksAll s.kept w)
