pub mod Running
pub mod Serving
pub mod Nodes
pub mod Calls
