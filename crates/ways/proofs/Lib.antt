-- What a step's parts ask, and what they make together.
pub mod Keep
pub mod OneStep
