-- What the contracts of this crate ask for.
pub mod Within
