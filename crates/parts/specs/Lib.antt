-- The machine that the parts are of.
pub mod Whole
