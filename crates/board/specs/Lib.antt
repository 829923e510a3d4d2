pub mod Kept
pub mod FoundPiece
pub mod Subject
pub mod Starts
pub mod Free
pub mod Conserved
pub mod Noted
