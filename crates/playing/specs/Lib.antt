-- What the contracts of a play cite besides the rules.
pub mod Meant
