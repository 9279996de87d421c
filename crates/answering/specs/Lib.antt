-- The four numbers of an answer.
pub mod Answer
