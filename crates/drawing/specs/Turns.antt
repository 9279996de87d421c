-- What a drawing says that it turned over, or would.
use Rattle.std.specs.Prelude.{◌≡◌, List, ℕ, ◌+◌, ◌*◌, ◌≤◌, length}
use Rattle.rules.specs.Picture.{darkened, lightened}
use Rattle.picture.specs.declared.Spots.{Spots}

-- the lit spots that go dark, and the dark ones that are lit: together at most eight for each byte of the pattern
pub record Turns (pattern : List ℕ) (column row : ℕ) (picture : List ℕ) (s : Spots) : Type 0 where
  pub dark : s.dark ≡ darkened pattern column row picture
  pub lit : s.lit ≡ lightened pattern column row picture
  pub few : s.dark + s.lit ≤ 8 * length pattern
