pub mod Decimals
pub mod Found
pub mod Walks
pub mod Commands
pub mod Spelled
pub mod Rows
