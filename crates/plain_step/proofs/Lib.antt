-- What an instruction, and a step, answers and leaves.
pub mod Laws
