-- A salvage beside an image.
pub mod Salvaged
