pub mod Rules
pub mod Looking
pub mod Pressing
