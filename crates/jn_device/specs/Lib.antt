pub mod Device
pub mod Calls
pub mod Events
pub mod Later
pub mod Happens
