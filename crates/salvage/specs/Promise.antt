-- What the call promises: that it gives what the definition says, in the outcome, the report, the numbers and every lent element.
use Rattle.std.specs.Prelude.{◌≡◌, List, ℕ, Result, Ok, Err}
use Rattle.rules.specs.declared.Refusal.{Refusal}
use Rattle.rules.specs.declared.Trail.{Trail}
use Rattle.rules.specs.Refusal.{number}
use Rattle.salvage.specs.declared.Salvaged.{Salvaged}
use Rattle.salvage.specs.Salvage.{Salvage}

-- a refused call reports 0 and 0
abbrev pub reported : Result Salvaged Refusal → Salvaged
reported (Ok r) = r
reported (Err _) = record { kept = 0; cleared = 0 }

pub record GivesSalvage (s : Salvage) (o : Result Salvaged Refusal) (t : Trail) (his lst : List ℕ) : Type 0 where
  pub says : number o ≡ s.refusal
  pub kept : (reported o).kept ≡ s.kept
  pub cleared : (reported o).cleared ≡ s.cleared
  pub trail : t ≡ s.trail
  pub history : his ≡ s.history
  pub list : lst ≡ s.list
