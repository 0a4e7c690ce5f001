mod Common
pub mod NewStores
pub mod Closed
