-- The proofs of what Equal and Kept claim, and the laws of a run's entries.
pub mod Beside
pub mod Equal
pub mod Entries
pub mod Kept
