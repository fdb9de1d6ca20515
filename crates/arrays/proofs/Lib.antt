pub mod Deciding
pub mod Cutting
pub mod Values
