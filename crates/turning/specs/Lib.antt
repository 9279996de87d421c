-- What the two calls promise.
pub mod Turn
