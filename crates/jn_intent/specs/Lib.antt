pub mod Inside
pub mod Works
pub mod Scrubbing
pub mod Events
pub mod Carrying
pub mod Preparing
