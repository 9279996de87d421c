-- What the contracts of the actions cite besides the rules.
pub mod Taken
