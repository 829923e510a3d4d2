pub mod Hundredths
pub mod Named
pub mod PieceSizes
pub mod PolicyRows
pub mod Refusals
