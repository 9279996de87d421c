-- What a call of the library gave, seen through the image; calls that follow one another on one image; and that the promise is tight.
pub mod Laws
pub mod Chains
pub mod OnlyOne
