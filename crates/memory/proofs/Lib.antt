-- What is proved here besides the functions.
pub mod Numbers
