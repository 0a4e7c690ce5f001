pub mod Names
pub mod Buckets
pub mod Calls
pub mod Turns
pub mod Maps
pub mod Places
