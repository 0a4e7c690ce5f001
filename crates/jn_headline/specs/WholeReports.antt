-- Reports of whole runs.
pub mod Whole
pub mod Example
