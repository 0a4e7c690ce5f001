pub mod Later
pub mod Steps
pub mod Happening
