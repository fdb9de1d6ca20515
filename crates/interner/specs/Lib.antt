pub mod Entries
pub mod Hashes
pub mod Interning
pub mod Layouts
pub mod Slots
pub mod Tables
pub mod Laying
