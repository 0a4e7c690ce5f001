-- A run with its events, its end and its lines.
pub mod Reported
pub mod Armed
pub mod Ending
pub mod Example
