pub mod Books
pub mod Ends
pub mod Given
pub mod Lockstep
