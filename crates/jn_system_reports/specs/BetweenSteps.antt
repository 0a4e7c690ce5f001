-- What holds between any two steps.
pub mod Sent
pub mod Names
pub mod Doubt
pub mod Parts
pub mod Works
pub mod Commits
pub mod Drops
pub mod Answers
pub mod Lines
pub mod Example
