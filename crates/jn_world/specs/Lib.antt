pub mod Standing
pub mod Faults
pub mod Written
pub mod Counting
pub mod Calm
pub mod Images
