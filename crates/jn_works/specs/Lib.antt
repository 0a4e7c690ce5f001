pub mod Changing
pub mod Sorting
pub mod Locked
