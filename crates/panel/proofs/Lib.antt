-- The table's law, and the laws of the panel's bytes and dots.
pub mod Entries
pub mod Dots
