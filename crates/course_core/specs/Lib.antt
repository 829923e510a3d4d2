pub mod Course
pub mod Promises
pub mod Kept
