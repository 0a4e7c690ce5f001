mod Common
mod Order
mod Editing
mod Indexed
mod Taking
mod Turning
pub mod Least
