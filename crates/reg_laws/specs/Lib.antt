pub mod Missing
pub mod Narrowest
pub mod Nobodys
pub mod Rising
pub mod Reached
pub mod Use
