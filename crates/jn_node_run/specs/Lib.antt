pub mod Outcome
pub mod Parts
