pub mod Documents
pub mod Faults
pub mod Hosts
pub mod Least
pub mod Registry
pub mod Seen
pub mod Unknown
