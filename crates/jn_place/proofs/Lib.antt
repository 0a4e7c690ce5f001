mod Common
pub mod Rows
pub mod Slots
pub mod Steps
pub mod Served
pub mod Devices
pub mod Calling
pub mod Ending
pub mod Taking
pub mod Rising
pub mod Befalling
pub mod Beside
pub mod Remaining
