-- What the judgement comes to where an instruction leaves the picture, and where a drawing needs no look.
pub mod Laws
