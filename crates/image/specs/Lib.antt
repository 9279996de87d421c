-- A state and its numbers as an image of 64 bytes, for hosts that know only bytes.
pub mod Image
