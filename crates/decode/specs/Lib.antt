-- Which way an instruction takes through a step.
pub mod Ways
