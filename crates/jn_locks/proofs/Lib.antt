mod Common
pub mod Orders
pub mod Maps
pub mod Holding
pub mod Places
pub mod Collisions
pub mod Least
pub mod Conflicts
pub mod Breaks
pub mod Puts
pub mod Granting
pub mod Steps
pub mod Intends
pub mod Listing
