pub mod Pages
pub mod Faults
pub mod Disk
