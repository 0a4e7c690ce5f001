mod Common
pub mod Mirroring
pub mod Ordering
