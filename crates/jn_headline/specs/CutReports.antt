-- Reports that are cut off.
pub mod Cut
pub mod Example
