pub mod ApartLists
pub mod LastOrder
pub mod Sought
pub mod Changed
pub mod Counted
pub mod Replaced
pub mod Ends
