pub mod Shown
pub mod Absorbing
pub mod Rule
pub mod Pass
pub mod Faults
pub mod Press
pub mod Opening
