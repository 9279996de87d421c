-- What an instruction that is not refused has.
pub mod Laws
