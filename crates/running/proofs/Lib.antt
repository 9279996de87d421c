-- Entries: one after the other. Nothing: what a step adds that copies nothing.
pub mod Entries
pub mod Nothing
