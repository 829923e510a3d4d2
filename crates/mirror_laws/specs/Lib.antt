pub mod Feed
pub mod Follows
pub mod Forms
