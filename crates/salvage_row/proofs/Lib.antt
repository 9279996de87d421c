-- The laws of the row.
pub mod Rows
