mod Common
pub mod Reports
pub mod Computed
pub mod Telling
pub mod Ordered
pub mod Counted
pub mod Texts
pub mod Clients
pub mod Quiet
pub mod Resting
pub mod Refuted
pub mod Called
pub mod Struck
pub mod Caused
pub mod Coursed
pub mod Named
pub mod LeftBy
