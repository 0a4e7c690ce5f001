pub mod Laws
pub mod Answers
pub mod Choices
pub mod Events
pub mod TwoPuts
