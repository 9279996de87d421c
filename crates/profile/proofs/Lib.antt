-- The proofs of what Profile claims: one action, then every call, then the numbers that are answered besides.
pub mod Alike
pub mod Above
pub mod Profile
pub mod Numbers
