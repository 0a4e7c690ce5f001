mod Common
pub mod Complete
pub mod Opened
pub mod ReadBytes
pub mod Outcomes
pub mod Told
pub mod Lines
pub mod Stores
pub mod Summed
pub mod Stretches
