pub mod Endian
pub mod Varints
pub mod Packing
pub mod Plains
pub mod Writing
