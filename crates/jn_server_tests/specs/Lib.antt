pub mod Trial
pub mod Restarts
