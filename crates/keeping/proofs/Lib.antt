-- What is proved here besides the functions.
pub mod Overlap
pub mod Inside
pub mod Cleared
pub mod Reached
pub mod Laid
