-- How an image is laid, piece by piece.
pub mod Laid
