-- What is claimed of a salvage beside an image, proved.
pub mod Chains
