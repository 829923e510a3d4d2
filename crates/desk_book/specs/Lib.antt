pub mod Reply
pub mod Book
pub mod Faults
pub mod Desk
