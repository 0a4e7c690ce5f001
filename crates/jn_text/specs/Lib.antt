pub mod Read
pub mod Words
