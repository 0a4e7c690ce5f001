mod Common
pub mod Laws
pub mod Listings
pub mod Intended
pub mod Kept
pub mod Seen
pub mod Finds
pub mod LackingMaps
