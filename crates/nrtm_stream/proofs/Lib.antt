pub mod Numbers
pub mod Parted
pub mod Sources
pub mod Spelled
pub mod Kept
pub mod Streams
mod Rows
