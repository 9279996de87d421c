-- The numbers that a call answers beside its refusal number. What each of them says, the call says.
use Rattle.std.specs.Prelude.{Bool, List, [], ◌∷◌, ℕ, length, eqb}
use Rattle.rules.specs.Number.{pick}

-- there is room for four of them
abbrev pub answers : List ℕ → Bool
answers answer = eqb (length answer) 4

-- three numbers, and one that is kept for what is to come; where there is other room, nothing
abbrev pub answered : ℕ → ℕ → ℕ → List ℕ → List ℕ
answered first second third answer = pick (answers answer) (first ∷ second ∷ third ∷ 0 ∷ []) answer
