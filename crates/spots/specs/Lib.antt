-- A picture as 2,048 spots, one number for each.
pub mod Spots
