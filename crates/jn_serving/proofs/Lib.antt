mod Common
pub mod Written
pub mod Served
pub mod Fronts
pub mod Reading
