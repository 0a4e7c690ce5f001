pub mod Stored
pub mod Edits
pub mod Operations
pub mod Replies
