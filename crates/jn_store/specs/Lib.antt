pub mod Store
pub mod Answers
pub mod Pairs
pub mod Choices
pub mod DeviceCalls
pub mod PlainList
