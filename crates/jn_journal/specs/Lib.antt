pub mod Format
pub mod Torn
pub mod Reading
pub mod Steps
pub mod First
