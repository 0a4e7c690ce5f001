mod Common
mod Holding
mod Working
mod Coordinating
mod Stepping
mod Restarted
mod Serving
mod Listed
mod Pieces
mod Shows
mod Room
pub mod Counted
pub mod Remaining
pub mod Leaving
pub mod Settled
