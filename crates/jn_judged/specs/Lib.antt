pub mod Rules
pub mod FileRules
pub mod Faults
pub mod Example
