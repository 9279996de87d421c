-- Laws of bits, of a pattern's masks, and of the spots that it meets and shows, row by row and of up to eight rows at once.
pub mod Bits
pub mod Shown
pub mod Counted
pub mod Gathered
