pub mod Listing
pub mod Orderly
pub mod Storage
pub mod Calls
pub mod Viewing
pub mod Finding
pub mod DeviceCalls
