-- What a run gave, seen through the image.
pub mod Seen
pub mod Chains
