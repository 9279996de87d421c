-- What the calls promise.
pub mod Dock
