-- What the calls of the library promise: that they give what the definitions answer, in the outcome, the state, the numbers
-- and every lent byte.
use Rattle.std.specs.Prelude.{◌≡◌, List, ℕ, Result}
use Rattle.rules.specs.declared.Machine.{Machine}
use Rattle.rules.specs.declared.Trail.{Trail}
use Rattle.rules.specs.declared.Refusal.{Refusal}
use Rattle.rules.specs.Refusal.{number}
use Rattle.rules.specs.World.{Answer}
use Rattle.rules.specs.Run.{Ran}

pub record Gives {A : Type 0} (a : Answer) (o : Result A Refusal) (m : Machine) (t : Trail) (mem pic his : List ℕ) : Type 0 where
  pub says : number o ≡ a.refusal
  pub machine : m ≡ a.world.machine
  pub trail : t ≡ a.world.trail
  pub memory : mem ≡ a.world.memory
  pub picture : pic ≡ a.world.picture
  pub history : his ≡ a.world.history

pub record GivesRun {A : Type 0} (r : Ran) (n : ℕ) (o : Result A Refusal) (m : Machine) (t : Trail) (mem pic his : List ℕ) : Type 0 where
  pub accepted : n ≡ r.accepted
  pub rest : Gives r.answer o m t mem pic his
