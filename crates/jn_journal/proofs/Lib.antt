pub mod Torn
pub mod Headers
pub mod Steps
pub mod Witnesses
pub mod Journals
