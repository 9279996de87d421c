-- A play, move by move.
pub mod Moves
