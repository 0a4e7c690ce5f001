mod Common
pub mod Settling
pub mod AtRest
pub mod Closing
