-- Numbers as text: upper-case hex in a fixed width, and decimal with no zeros in front.
use Rattle.std.specs.Prelude.{cond, List, [], ◌∷◌, ℕ, ◌+◌, ◌/◌, ◌%◌, ltb}

abbrev pub space : ℕ
space = 32

-- the ASCII code of a digit below 16: 0 to 9, then A to F
abbrev pub glyph_of : ℕ → ℕ
glyph_of d = cond (ltb d 10) (48 + d) (55 + d)

-- a byte in two digits, and a number of 16 bits in four
abbrev pub hex_of : ℕ → List ℕ
hex_of n = glyph_of (n / 16) ∷ glyph_of (n % 16) ∷ []

abbrev pub wide_hex_of : ℕ → List ℕ
wide_hex_of n = glyph_of (n / 4096 % 16) ∷ glyph_of (n / 256 % 16) ∷ glyph_of (n / 16 % 16) ∷ glyph_of (n % 16) ∷ []

-- a byte in decimal
abbrev pub decimal_of : ℕ → List ℕ
decimal_of n =
    cond (ltb n 10) (glyph_of n ∷ [])
    (cond (ltb n 100) (glyph_of (n / 10) ∷ glyph_of (n % 10) ∷ [])
    (glyph_of (n / 100) ∷ glyph_of (n / 10 % 10) ∷ glyph_of (n % 10) ∷ []))
