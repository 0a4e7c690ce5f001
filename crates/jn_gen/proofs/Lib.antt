mod Common
pub mod Words
pub mod Parsing
pub mod Drawing
pub mod Choosing
