-- What the contracts of this crate ask for and promise.
pub mod Able
pub mod Accepted
pub mod Became
