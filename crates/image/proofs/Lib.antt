-- What is claimed of images.
pub mod ReadsBack
