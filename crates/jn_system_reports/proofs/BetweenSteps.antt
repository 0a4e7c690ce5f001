-- What holds between any two steps.
pub mod Staying
pub mod Ending
pub mod Breaking
pub mod Broken
pub mod Standing
pub mod Laws
pub mod Dropping
pub mod Passing
pub mod Telling
pub mod Heard
pub mod Lined
