-- What a step and a tick give.
pub mod Alone
pub mod Ticked
