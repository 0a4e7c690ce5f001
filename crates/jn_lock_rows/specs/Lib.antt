pub mod Matching
pub mod Calls
