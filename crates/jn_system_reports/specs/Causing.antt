-- Each abort that is reported has its cause.
pub mod Example
