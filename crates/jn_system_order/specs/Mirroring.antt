-- What stands where, and that each step keeps it.
pub mod Mirrors
