-- What the contracts of the writing cite besides the rules.
pub mod Writable
