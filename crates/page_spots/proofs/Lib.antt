-- The law that the bytes of a page are its spots.
pub mod Spots
