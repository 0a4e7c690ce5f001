mod Common
pub mod Plain
pub mod Telling
pub mod Answering
pub mod Showing
pub mod Causing
pub mod Silent
