-- What the number's tests come to.
pub mod Laws
