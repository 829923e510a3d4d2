pub mod Decimals
pub mod Separators
pub mod Once
pub mod Parsed
pub mod Written
pub mod Valid
pub mod Computed
