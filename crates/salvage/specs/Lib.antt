-- Request Q-12, the salvage of a worn history: the call, worked cases, what is claimed of it and of the steps back after it, and what it promises.
-- Read them in this order; the proofs are in proofs/.
pub mod Salvage
pub mod Cases
pub mod Claims
pub mod Backs
pub mod Promise
