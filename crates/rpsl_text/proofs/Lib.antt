pub mod Appended
pub mod Lengths
pub mod Parted
pub mod ReadBack
mod Rows
pub mod Spaced
pub mod Stored
pub mod Values
