-- The calls of the library on a machine that stands in an image.
pub mod Imaged
