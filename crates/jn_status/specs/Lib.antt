pub mod Codes
pub mod Refusing
