-- What an end that settles leaves.
pub mod Rows
pub mod Tends
pub mod Rests
pub mod Ends
