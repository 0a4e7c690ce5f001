mod Common
pub mod Handing
pub mod Answering
pub mod Ignoring
pub mod Last
pub mod Example
pub mod Kept
pub mod Reaching
pub mod DataPages
pub mod Ranged
pub mod Printed
pub mod ReadBack
