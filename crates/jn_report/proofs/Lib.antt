pub mod Appends
pub mod Decimals
