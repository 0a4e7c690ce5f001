pub mod Places
pub mod Calls
pub mod Exact
pub mod Inner
pub mod Remaining
