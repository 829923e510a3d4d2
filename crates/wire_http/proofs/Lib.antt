pub mod Heads
pub mod Steps
pub mod Room
pub mod Taken
pub mod Unique
pub mod Rows
pub mod MessageRows
