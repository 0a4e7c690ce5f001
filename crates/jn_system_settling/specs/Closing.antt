-- What an end that settles leaves.
pub mod Ending
pub mod Example
