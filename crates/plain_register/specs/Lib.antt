pub mod Parts
pub mod Pool
pub mod Kept
pub mod FoundPiece
pub mod Starts
pub mod Fitting
pub mod Changes
