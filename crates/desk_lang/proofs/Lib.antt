pub mod Hosts
pub mod ValidLines
pub mod ReadWords
pub mod WordForms
pub mod ReadValues
pub mod ReadLines
pub mod ReadEntries
pub mod FrontWords
pub mod WrongPlaces
pub mod WrongLines
pub mod NeededRoom
pub mod NextEntries
mod PlaceRows
