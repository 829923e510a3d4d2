pub mod Book
pub mod Numbered
pub mod HandleKey
pub mod Index
pub mod Kept
pub mod HoldingBook
