pub mod Replies
pub mod Unfolding
pub mod Logs
