-- The two forms of a picture, and what is found and done spot by spot.
pub mod Forms
pub mod Walked
