mod Common
pub mod Slots
pub mod Stored
pub mod Loading
mod Numbering
mod Rubbish
