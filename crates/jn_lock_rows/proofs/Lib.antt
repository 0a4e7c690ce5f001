mod Common
pub mod Works
pub mod Keeping
pub mod Asking
pub mod Blocking
pub mod Breaking
pub mod Granting
pub mod Restoring
pub mod Places
pub mod Edits
pub mod Together
