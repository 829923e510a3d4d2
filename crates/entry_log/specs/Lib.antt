pub mod Entries
pub mod Front
pub mod Steps
