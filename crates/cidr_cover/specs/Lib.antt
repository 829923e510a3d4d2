pub mod Front
pub mod Blocks
pub mod Cuts
