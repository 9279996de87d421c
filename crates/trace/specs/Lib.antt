-- The trace of document 01.
pub mod Trace
