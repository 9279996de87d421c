-- Masks: a pattern on rows, row by row.
pub mod Masks
