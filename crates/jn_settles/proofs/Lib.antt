mod Common
pub mod Places
pub mod Going
pub mod Settled
pub mod Bounded
pub mod Closed
