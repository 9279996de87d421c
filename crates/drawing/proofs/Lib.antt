-- Laws of rows turned over: that they are the picture drawn, one after the other, and of their bytes that are kept meanwhile; and of how far
-- a pattern reaches.
pub mod Drawing
pub mod Turned
pub mod Kept
pub mod NextRow
pub mod Reach
