-- What a quiet instruction leaves.
pub mod Quiet
