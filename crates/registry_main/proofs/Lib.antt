pub mod Applied
pub mod Commands
pub mod Ends
pub mod Fed
pub mod Entries
pub mod FirstLine
pub mod Front
pub mod Published
mod Rows
pub mod Shown
pub mod UpToDate
pub mod Written
pub mod AtOnce
