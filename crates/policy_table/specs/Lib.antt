pub mod Document
pub mod Fields
pub mod Hostmasters
pub mod Policy
pub mod Rows
pub mod Section
pub mod Token
pub mod Zone
