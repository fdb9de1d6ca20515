pub mod Faults
pub mod Limits
pub mod Bits
pub mod Writes
pub mod Laws
pub mod Plain
