pub mod Handing
pub mod Example
pub mod Pages
pub mod Parts
pub mod Shows
pub mod Works
pub mod Worlds
