-- What a step back gives.
pub mod Undone
