pub mod Edits
pub mod Sorting
pub mod LeastFiles
