pub mod Prefixes
pub mod Keeping
pub mod Reached
pub mod Hundredths
pub mod PieceSizes
pub mod PolicyRows
pub mod Refusals
