-- The machine of small steps over the stable states.
pub mod Traces
pub mod Held
pub mod World
pub mod Transactions
pub mod Steps
pub mod Premises
pub mod Order
pub mod Messages
pub mod Example
