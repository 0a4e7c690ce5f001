pub mod Listed
pub mod Stages
pub mod Telling
pub mod Closing
