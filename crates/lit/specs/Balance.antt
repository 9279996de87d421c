-- Two pictures, and how many lit spots go dark and how many dark ones are lit from the one to the other.
use Rattle.std.specs.Prelude.{◌≡◌, List, ℕ, ◌+◌}
use Rattle.picture.specs.declared.Spots.{Spots}
use Rattle.rules.specs.Picture.{lit_spots}

abbrev pub Balance : Spots → List ℕ → List ℕ → Type 0
Balance s p q = lit_spots q + s.dark ≡ lit_spots p + s.lit
