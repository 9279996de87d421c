-- A run told without a history, what the plain engine's call promises, and what is claimed of it. Read them in this order.
pub mod Gone
pub mod Plain
pub mod Equal
pub mod Kept
