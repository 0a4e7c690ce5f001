mod Common
pub mod Tables
pub mod Fitting
pub mod Rows
pub mod Room
pub mod Ending
pub mod ClosingLemmas
pub mod Knowing
pub mod Restart
pub mod Beginnings
pub mod Onwards
pub mod AfterFlag
