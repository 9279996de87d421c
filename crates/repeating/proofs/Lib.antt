-- What a step forward gives.
pub mod Redone
