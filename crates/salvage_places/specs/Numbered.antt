-- The number that the list has for a standing.
use Rattle.std.specs.Prelude.{ℕ}
use Rattle.salvage_places.specs.declared.Standing.{Standing}
use Rattle.salvage_places.specs.declared.Standing.TheVariants.{Kept, Ahead, Free}

abbrev pub number : Standing → ℕ
number Kept = 0
number Ahead = 1
number Free = 2
