pub mod Missing
pub mod Places
pub mod Neighbours
pub mod Parts
pub mod FoundPieces
pub mod Known
pub mod Rounding
pub mod Counting
