-- The rules of document 01 as definitions, and what is claimed of them: Rows, Copied, Editions, Twice, Lit, Past and Promise. Read
-- them in this order; the proofs are in proofs/.
pub mod Number
pub mod Refusal
pub mod State
pub mod Instruction
pub mod Registers
pub mod Picture
pub mod Memory
pub mod Step
pub mod Byte
pub mod Record
pub mod World
pub mod Load
pub mod Call
pub mod Run
pub mod Dark
pub mod Typed
pub mod Rows
pub mod Copied
pub mod Editions
pub mod Twice
pub mod Lit
pub mod Past
pub mod Promise
