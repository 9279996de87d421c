-- A page on the way.
pub mod Filled
