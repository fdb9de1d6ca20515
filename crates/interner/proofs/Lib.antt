pub mod Finding
pub mod Firsts
pub mod Growing
pub mod Holding
pub mod Rounds
pub mod Sequences
pub mod Steps
pub mod Walks
