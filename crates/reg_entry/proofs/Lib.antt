pub mod Padding
mod Rows
pub mod Calendar
pub mod DayTexts
mod RegisterRows
pub mod Joining
pub mod Laying
pub mod Holding
pub mod LeastBlock
pub mod Overlaps
pub mod Lookups
pub mod Sizes
pub mod OnePiece
pub mod Statuses
pub mod Orders
pub mod Reshaped
