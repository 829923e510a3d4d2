mod Rows
pub mod Dates
