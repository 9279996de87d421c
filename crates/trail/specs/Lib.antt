-- What the numbers must be before they are counted on.
pub mod InRange
