pub mod Kinds
pub mod Weights
pub mod Ranges
pub mod Collected
