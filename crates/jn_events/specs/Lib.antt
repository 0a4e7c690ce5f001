pub mod Stores
pub mod Naming
pub mod Written
pub mod Settling
pub mod Bringing
pub mod Closing
pub mod Meeting
pub mod Opening
