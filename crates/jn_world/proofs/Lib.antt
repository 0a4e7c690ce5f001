mod Common
pub mod Calm
pub mod ClientCalls
pub mod Exits
pub mod Images
pub mod LostCalls
pub mod Measures
pub mod Places
pub mod Sending
pub mod ServerCalls
pub mod UpServers
pub mod Worlds
