-- Settling as a plain function, its end and its bound.
pub mod Events
pub mod Rows
pub mod Weights
pub mod Sizes
pub mod Bounds
pub mod Rests
pub mod RowReports
