-- The card's glass, dot for dot. A picture and its spots are those of the crate rules.
pub mod Panel
pub mod Bytes
