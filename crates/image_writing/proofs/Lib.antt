-- What stands in an image while it is laid.
pub mod Pieces
