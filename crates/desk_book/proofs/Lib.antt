pub mod Publishing
pub mod Entering
pub mod Answering
