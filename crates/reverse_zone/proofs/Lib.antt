mod Rows
pub mod Lengths
pub mod Finding
pub mod NoZone
pub mod Members
pub mod Parts
pub mod EachApex
pub mod Appended
pub mod ZoneLines
pub mod Names
pub mod WholeNames
pub mod Zoned
