mod Rows
mod LoadRows
pub mod Wraps
