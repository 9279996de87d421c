-- The tests of a salvage, the proofs of what Claims says, and that the promise is tight.
pub mod Accepted
pub mod After
pub mod Again
pub mod Backs
pub mod Given
