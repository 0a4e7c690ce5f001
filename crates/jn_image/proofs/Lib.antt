mod Common
pub mod Halves
pub mod Headers
pub mod Passing
pub mod Again
pub mod Told
pub mod Loops
pub mod Roots
pub mod Repeated
pub mod Exclusive
pub mod HeadLists
pub mod Rows
pub mod Times
pub mod Spots
pub mod SoundPages
pub mod SoundFits
