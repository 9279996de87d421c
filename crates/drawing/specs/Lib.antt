-- Turned: drawing on the way, row by row. Turns: what a drawing says that it turned over.
pub mod Turned
pub mod Turns
