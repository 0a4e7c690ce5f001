-- What a settle leaves.
pub mod Settled
pub mod Calls
pub mod CallExample
pub mod Example
