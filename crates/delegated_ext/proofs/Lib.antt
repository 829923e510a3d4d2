mod Rows
pub mod Lists
pub mod Ranges
pub mod Pieces
pub mod Lengths
pub mod Counted
pub mod Appended
pub mod Whole
