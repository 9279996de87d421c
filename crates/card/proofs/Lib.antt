-- That the calls' promises are tight.
pub mod OnlyOne
