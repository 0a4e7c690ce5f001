pub mod Fitting
pub mod Leaving
pub mod Calls
pub mod Reading
pub mod Handling
pub mod Restoring
pub mod Laws
