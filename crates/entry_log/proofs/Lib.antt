pub mod Fronts
pub mod Appending
pub mod Grown
