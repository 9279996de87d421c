-- Ticks, one after the other.
pub mod Ticks
