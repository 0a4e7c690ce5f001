pub mod Exchanging
pub mod Fewer
pub mod Fitting
pub mod Given
