pub mod Utf8
pub mod Trees
pub mod Registering
pub mod Alike
pub mod Errors
mod Rows
