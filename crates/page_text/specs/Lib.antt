pub mod Lines
pub mod Pages
pub mod Requests
pub mod Complaints
pub mod Written
