pub mod Sequence
pub mod Draw
pub mod Draws
pub mod Holders
pub mod Drawn
pub mod Opening
pub mod Load
