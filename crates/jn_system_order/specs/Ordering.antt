-- Runs, and the order of their commits.
pub mod Runs
