pub mod Directory
pub mod Pages
pub mod Regions
pub mod Searching
pub mod Sorted
pub mod Splices
pub mod Spread
