mod MapRows
mod Common
pub mod Cells
pub mod Places
pub mod Between
pub mod Turning
pub mod Holding
pub mod Filing
pub mod Stored
pub mod Calling
pub mod Laying
pub mod Cutting
pub mod Freeing
pub mod Standing
pub mod Lookup
pub mod Said
pub mod Indexed
pub mod Changing
pub mod Putting
pub mod Setting
pub mod Leaves
pub mod Touching
pub mod Loading
pub mod ReadPages
pub mod Loaded
pub mod Finding
pub mod Naming
