-- Choices, numbers of two bytes, bits, and a test of two lists.
use Rattle.std.specs.Prelude.{Bool, true, false, ◌&&◌, List, [], ◌∷◌, ℕ, ◌/◌, ◌%◌, ◌^◌, eqb}

-- a where the test holds, and else b
abbrev pub pick : {A : Type 0} → Bool → A → A → A
pick true a b = a
pick false a b = b

-- a refusal number unless the test holds, and else what the later tests say
abbrev pub unless : Bool → ℕ → ℕ → ℕ
unless true refusal later = later
unless false refusal later = refusal

-- a refusal number, and where it is 0 what the later tests say
abbrev pub or_later : ℕ → ℕ → ℕ
or_later refusal later = pick (eqb refusal 0) later refusal

-- a number of two bytes, the high one first
abbrev pub word : ℕ → List ℕ
word n = n / 256 % 256 ∷ n % 256 ∷ []

-- bit b of n, counted from the lowest
abbrev pub bit : ℕ → ℕ → ℕ
bit b n = n / 2 ^ b % 2

-- and whether it is 1
abbrev pub is_one : ℕ → ℕ → Bool
is_one b n = eqb (bit b n) 1

-- whether two lists are equal
abbrev pub same : List ℕ → List ℕ → Bool
same [] [] = true
same [] (y ∷ ys) = false
same (x ∷ xs) [] = false
same (x ∷ xs) (y ∷ ys) = eqb x y && same xs ys
