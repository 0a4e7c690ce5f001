mod Common
pub mod Seen
pub mod Found
pub mod Moments
pub mod Ended
