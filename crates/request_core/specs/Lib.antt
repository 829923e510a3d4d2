pub mod Named
pub mod Undated
