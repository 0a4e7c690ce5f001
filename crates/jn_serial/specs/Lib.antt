pub mod Lines
pub mod Begun
pub mod Order
pub mod Told
pub mod Caused
pub mod Shown
pub mod Follows
pub mod Example
