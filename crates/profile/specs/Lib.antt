-- Request Q-14: the worked cases at the end 06A0, and what is claimed of the end of memory.
pub mod Cases
pub mod Profile
