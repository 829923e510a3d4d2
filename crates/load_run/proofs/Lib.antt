pub mod Drawn
pub mod Legal
pub mod Steps
