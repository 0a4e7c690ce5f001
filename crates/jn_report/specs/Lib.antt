pub mod Append
pub mod Text
pub mod Kinds
pub mod Lines
