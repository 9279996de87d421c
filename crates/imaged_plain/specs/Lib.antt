-- A run of the plain engine on an image.
pub mod PlainOn
