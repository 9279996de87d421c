-- What std writes of a number, in the words of the promises.
pub mod Decimal
