pub mod Along
pub mod Served
pub mod Gate
pub mod Duties
pub mod Back
pub mod Service
