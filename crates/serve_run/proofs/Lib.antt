pub mod Chains
pub mod Ends
pub mod Giving
pub mod Taking
pub mod Both
