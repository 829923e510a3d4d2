pub mod Tree
pub mod Made
pub mod Facts
pub mod Network
pub mod RdapAnswer
pub mod Registered
