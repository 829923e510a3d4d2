pub mod Records
pub mod Conserved
pub mod StatisticsText
pub mod Writable
pub mod StatisticsAnswer
