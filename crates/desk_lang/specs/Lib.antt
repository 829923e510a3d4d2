pub mod Words
pub mod Values
pub mod Grammar
pub mod Writable
pub mod EntryReading
pub mod Places
