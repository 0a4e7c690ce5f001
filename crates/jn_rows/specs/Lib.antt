pub mod Stable
pub mod Client
pub mod Outcomes
pub mod Performing
pub mod Worker
pub mod Coordinator
pub mod Examples
pub mod ClientLaws
