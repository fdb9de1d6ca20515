pub mod Values
pub mod Numbers
pub mod Opening
pub mod Offsets
pub mod Widths
pub mod Keys
