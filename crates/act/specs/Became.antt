-- The board that an accepted instruction leads to, with its number of lit spots; and a board part by part.
use Rattle.std.specs.Prelude.{◌≡◌, List, ℕ}
use Rattle.rules.specs.declared.Machine.{Machine}
use Rattle.rules.specs.declared.Op.{Op}
use Rattle.rules.specs.Step.{Board, counted, after}

abbrev pub acted : Op → ℕ → ℕ → Machine → List ℕ → List ℕ → Board
acted op keys random m mem pic = counted (record { machine = m; memory = mem; picture = pic }) (after op keys random m mem pic)

pub record Became (b : Board) (m : Machine) (mem pic : List ℕ) : Type 0 where
  pub machine : m ≡ b.machine
  pub memory : mem ≡ b.memory
  pub picture : pic ≡ b.picture
