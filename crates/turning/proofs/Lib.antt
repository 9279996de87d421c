-- That the promises are tight.
pub mod OnlyOne
