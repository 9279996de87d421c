-- The lines of a trace.
pub mod Line
