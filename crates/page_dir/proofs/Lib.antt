mod Counting
mod Enough
mod Firsts
mod Halving
mod Joining
pub mod Looking
mod PagePools
mod Places
mod Regions
pub mod Rising
mod Spreads
mod Starts
pub mod Splicing
