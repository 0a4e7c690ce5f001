mod Common
pub mod Keeping
pub mod Own
pub mod Ends
