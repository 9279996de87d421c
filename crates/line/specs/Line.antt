-- The lines of a trace (document 01), as bytes.
use Rattle.std.specs.Prelude.{List, [], ◌∷◌, ◌++◌, ℕ}
use Rattle.text.specs.Text.{space, hex_of, wide_hex_of, decimal_of}

abbrev pub newline : ℕ
newline = 10

-- "n pc op i v0 vf"
abbrev pub header : List ℕ
header = 110 ∷ 32 ∷ 112 ∷ 99 ∷ 32 ∷ 111 ∷ 112 ∷ 32 ∷ 105 ∷ 32 ∷ 118 ∷ 48 ∷ 32 ∷ 118 ∷ 102 ∷ 10 ∷ []

-- the number of the step, then PC, the instruction, I, V0 and VF, a space before each
unfoldable pub step_line : ℕ → ℕ → ℕ → ℕ → ℕ → ℕ → List ℕ
step_line n pc op i v0 vf =
    decimal_of n ++ (space ∷ wide_hex_of pc) ++ (space ∷ wide_hex_of op) ++ (space ∷ wide_hex_of i)
    ++ (space ∷ hex_of v0) ++ (space ∷ hex_of vf) ++ (newline ∷ [])

-- "stop R at PPPP"
unfoldable pub stop_line : ℕ → ℕ → List ℕ
stop_line refusal pc =
    (115 ∷ 116 ∷ 111 ∷ 112 ∷ 32 ∷ []) ++ decimal_of refusal ++ (32 ∷ 97 ∷ 116 ∷ []) ++ (space ∷ wide_hex_of pc) ++ (newline ∷ [])
