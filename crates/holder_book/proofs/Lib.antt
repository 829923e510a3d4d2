pub mod Places
pub mod Numbers
pub mod HandleKeys
pub mod Indexing
pub mod Keeping
pub mod Counting
