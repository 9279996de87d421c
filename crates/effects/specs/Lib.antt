-- What an effect makes of the machine.
pub mod Written
