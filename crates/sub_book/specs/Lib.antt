pub mod Book
pub mod Order
pub mod Walk
