-- What the inner function asks of a table.
pub mod Table
