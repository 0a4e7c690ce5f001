pub mod Calls
pub mod Joined
pub mod Outside
pub mod Reporting
pub mod Writing
