pub mod Apex
pub mod Zone
pub mod Part
pub mod Delegated
pub mod ZoneAnswer
