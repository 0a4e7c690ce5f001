mod Common
pub mod Doing
pub mod Passing
pub mod Sounds
pub mod Lighter
pub mod Bounded
pub mod Whole
