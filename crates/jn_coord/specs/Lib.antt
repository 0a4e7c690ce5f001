pub mod Remembered
pub mod Calls
pub mod Closing
pub mod Restoring
pub mod Beginning
pub mod Handling
pub mod AfterFlag
