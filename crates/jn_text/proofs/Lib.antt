pub mod HexDigits
pub mod Numbers
pub mod Runs
pub mod Zeros
