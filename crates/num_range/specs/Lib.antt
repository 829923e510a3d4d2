pub mod Space
pub mod Number
pub mod Range
pub mod Block
pub mod Amount
pub mod Cover
