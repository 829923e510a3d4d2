pub mod Path
pub mod Length
