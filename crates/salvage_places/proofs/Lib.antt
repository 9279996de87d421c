-- The laws of places, of the clearing and of the list.
pub mod Turn
pub mod Others
pub mod Clearing
pub mod Listing
pub mod Filling
