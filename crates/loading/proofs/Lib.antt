-- What a load gives, and what its parts leave in memory.
pub mod Loaded
