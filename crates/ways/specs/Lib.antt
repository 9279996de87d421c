-- What the ways through a step ask for and promise. What the calls promise is in the specs of `rules`.
pub mod Steps
