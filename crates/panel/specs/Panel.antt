-- The panel: 128 by 64 dots in 1,024 bytes, 16 bytes a row, the highest bit leftmost. Each spot of the picture fills two by two dots.
use Rattle.std.specs.Prelude.{◌≡◌, Bool, true, ◌&&◌, List, [], ◌∷◌, ℕ, zero, suc, ◌+◌, ◌-◌, ◌*◌, ◌/◌, ◌%◌, ◌<◌, get_or, length, eqb}
use Rattle.rules.specs.declared.Refusal.TheVariants.{BufferLength}
use Rattle.rules.specs.Number.{pick, unless, bit}
use Rattle.rules.specs.Refusal.{Outcome, number_of, number}
use Rattle.rules.specs.State.{picture_size}
use Rattle.rules.specs.Picture.{spot, byte_of}

abbrev pub panel_size : ℕ
panel_size = 1024

-- the dot in column x of row y: 1 where it is lit, 0 where it is dark
abbrev pub dot : List ℕ → ℕ → ℕ → ℕ
dot panel x y = bit (7 - x % 8) (get_or panel (16 * y + x / 8) 0)

-- THE PANEL OF A PICTURE, dot for dot
pub record PanelOf (picture panel : List ℕ) : Type 0 where
  pub size : length panel ≡ panel_size
  pub dots : (x y : ℕ) → x < 128 → y < 64 → dot panel x y ≡ spot picture (x / 2) (y / 2)

-- ---- the same as bytes that compute

-- the bytes of a panel from j on, `left` of them, each made of its eight dots
abbrev pub dot_bytes : (ℕ → ℕ → ℕ) → ℕ → ℕ → List ℕ
dot_bytes f zero j = []
dot_bytes f (suc left) j = byte_of f (8 * (j % 16)) (j / 16) ∷ dot_bytes f left (j + 1)

unfoldable pub panel_of : List ℕ → List ℕ
panel_of picture = dot_bytes (λ x y. spot picture (x / 2) (y / 2)) panel_size 0

-- a byte with each bit standing twice, in 16 bits
unfoldable pub twice : ℕ → ℕ
twice b =
    bit 7 b * 0xC000 + bit 6 b * 0x3000 + bit 5 b * 0x0C00 + bit 4 b * 0x0300
    + bit 3 b * 0x00C0 + bit 2 b * 0x0030 + bit 1 b * 0x000C + bit 0 b * 0x0003

-- THE TABLE'S RULE: each of its 256 entries is its place doubled
pub record Doubles (table : List ℕ) : Type 0 where
  pub entry : (b : ℕ) → b < 256 → get_or table b 0 ≡ twice b

-- ---- the call

abbrev pub fits : List ℕ → List ℕ → Bool
fits picture panel = eqb (length picture) picture_size && eqb (length panel) panel_size

-- 9 unless both lengths are right
abbrev pub panel_refusal : List ℕ → List ℕ → ℕ
panel_refusal picture panel = unless (fits picture panel) (number_of BufferLength) 0

-- a refused call leaves the panel as it came
abbrev pub panel_after : List ℕ → List ℕ → List ℕ
panel_after picture panel = pick (fits picture panel) (panel_of picture) panel

-- the promise: the number, every byte, and of a panel that is filled every dot
pub record Shows (picture before : List ℕ) (o : Outcome) (after : List ℕ) : Type 0 where
  pub says : number o ≡ panel_refusal picture before
  pub bytes : after ≡ panel_after picture before
  pub dots : fits picture before ≡ true → PanelOf picture after
