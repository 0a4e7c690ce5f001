-- Runs, and the order of their commits.
pub mod Openings
pub mod RowOpenings
pub mod Facts
pub mod ServerFacts
pub mod ClientFacts
pub mod ClientSteps
pub mod Named
pub mod Unlocked
pub mod Runs
