pub mod Kept
pub mod Examined
pub mod Opened
pub mod Saved
pub mod Texts
pub mod Laws
