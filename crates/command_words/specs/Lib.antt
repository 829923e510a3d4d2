pub mod Command
pub mod Table
