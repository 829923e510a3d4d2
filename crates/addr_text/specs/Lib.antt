pub mod Address
pub mod Block
pub mod Number
pub mod Range
pub mod Shortening
pub mod Reading
