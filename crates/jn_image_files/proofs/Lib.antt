mod Common
pub mod Naming
pub mod Kept
pub mod Stores
pub mod Disks
pub mod Exclusive
pub mod OneDisk
