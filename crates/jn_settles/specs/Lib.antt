pub mod Tables
pub mod Settled
pub mod Bounded
pub mod Closed
